-- Where a token begins, from a byte on.
use Rattle.std.proofs.Common.{◌≡◌, ℕ, ◌+◌, ◌<◌, List, [], ◌∷◌, length, drop, get_or, add-one, Some, None, refl, sym}
use Rattle.std.proofs.Math.Seq.{drop-cons}
use Rattle.bser_from_json.specs.Places.{past, place_from}
use Rattle.bser_from_json.specs.declared.places.Seek.{Seek}

pub drop_next : (xs : List ℕ) (i : ℕ) → i < length xs → drop i xs ≡ get_or xs i 0 ∷ drop (i + 1) xs
drop_next xs i h = rw add-one (drop-cons xs i 0 h)

pub place_here : (s : Seek) (i x : ℕ) (ys xs : List ℕ) → ys ≡ x ∷ xs → None ≡ past s x → place_from s i ys ≡ i
unfolding place_from
place_here s i x ys xs e none = rw e (rw (sym none) refl)

pub place_later : (s t : Seek) (i x : ℕ) (ys xs : List ℕ) → ys ≡ x ∷ xs → Some t ≡ past s x → place_from s i ys ≡ place_from t (i + 1) xs
unfolding place_from
place_later s t i x ys xs e some = rw e (rw (sym some) refl)

pub place_end : (s : Seek) (i : ℕ) (ys : List ℕ) → ys ≡ [] → place_from s i ys ≡ i
unfolding place_from
place_end s i ys e = rw e refl
