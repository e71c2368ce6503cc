-- Names that are gone through for the first capability that is missing.
use Rattle.std.proofs.Common.{◌≡◌, ℕ, suc, ◌+◌, ◌<◌, ◌≤◌, Bool, true, false, not, cond, List, length, drop, get_or, Option, Some, None, sym, ap, ◌∙◌, add-one, Bor}
use Rattle.std.proofs.Math.Seq.{drop-cons}
use Rattle.std.proofs.lemmas.List.{drop_all}
use Rattle.std.specs.BTreeMap.{BTreeMap}
use Rattle.watchman_types.specs.Capabilities.{says_true, first_missing}

pub missing_here : {S : Type 0} (name_of : S → List ℕ) (told : Option (BTreeMap S Bool)) (names : List (Bor (List ℕ))) (i : ℕ) (d : Bor (List ℕ)) → i < length names → false ≡ says_true name_of told (get_or names i d).now → first_missing name_of told (drop i names) ≡ Some (get_or names i d)
missing_here name_of told names i d h e =
    ap (first_missing name_of told) (drop-cons names i d h)
    ∙ ap (λ b. cond (not b) (Some (get_or names i d)) (first_missing name_of told (drop (suc i) names))) (sym e)

pub missing_later : {S : Type 0} (name_of : S → List ℕ) (told : Option (BTreeMap S Bool)) (names : List (Bor (List ℕ))) (i : ℕ) (d : Bor (List ℕ)) → i < length names → true ≡ says_true name_of told (get_or names i d).now → first_missing name_of told (drop i names) ≡ first_missing name_of told (drop (i + 1) names)
missing_later name_of told names i d h e =
    rw add-one (ap (first_missing name_of told) (drop-cons names i d h)
    ∙ ap (λ b. cond (not b) (Some (get_or names i d)) (first_missing name_of told (drop (suc i) names))) (sym e))

pub none_left : {S : Type 0} (name_of : S → List ℕ) (told : Option (BTreeMap S Bool)) (names : List (Bor (List ℕ))) (i : ℕ) → length names ≤ i → first_missing name_of told (drop i names) ≡ None
none_left name_of told names i h = ap (first_missing name_of told) (drop_all i names h)
