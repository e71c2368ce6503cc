-- Whether the entries have a name.
use Rattle.std.proofs.Common.{◌≡◌, ℕ, List, [], ◌∷◌, Bool, true, false, cond, Option, Some, Ok, Err, refl, ap, ◌∙◌, nat_cmp, is_some}
use Rattle.std.proofs.lemmas.Map.Text.{is_eq-slice_cmp}
use Rattle.std.specs.Ordering.{is_eq}
use Rattle.std.specs.Cmp.Lexicographic.{slice_cmp}
use Rattle.std.specs.Map.{lookup}
use Rattle.std.specs.Str.{bytes_eq}
use Rattle.bser_from_json.specs.declared.fault.JsonFault.TheVariants as faults
use Rattle.bser_format.specs.Tree.{Tree}
use Rattle.bser_from_json.specs.Bodies.{AreNamed, Places}
use Rattle.bser_from_json.specs.Made.{has_key, new_name}

same_find : {A B : Type 0} (b : Bool) (x : A) (y : B) (l : Option A) (m : Option B) → is_some l ≡ is_some m → is_some (cond b (Some x) l) ≡ is_some (cond b (Some y) m)
same_find true x y l m h = refl
same_find false x y l m h = h

pub has_same : (ps : Places) (es : List (List ℕ × Tree)) (k : List ℕ) → AreNamed ps es → is_some (lookup (λ q. is_eq (slice_cmp nat_cmp k q.now)) ps) ≡ has_key k es
has_same [] [] k h = refl
has_same [] (e ∷ es) k h = cc
has_same (p ∷ ps) [] k h = cc
has_same (p ∷ ps) (e ∷ es) k h =
    let first : p.0.now ≡ e.0 = cc in
    let others : AreNamed ps es = cc in
    ap (λ b. is_some (cond b (Some p.1) (lookup (λ q. is_eq (slice_cmp nat_cmp k q.now)) ps))) (is_eq-slice_cmp k p.0.now ∙ ap (bytes_eq k) first)
    ∙ same_find (bytes_eq k e.0) p.1 e.1 _ (lookup (bytes_eq k) es) (has_same ps es k others)

pub new_is_equal : (es : List (List ℕ × Tree)) (k : List ℕ) → has_key k es ≡ true → new_name es (Ok k) ≡ Err faults.EqualKeys
new_is_equal es k h = rw h refl

pub new_is_new : (es : List (List ℕ × Tree)) (k : List ℕ) → has_key k es ≡ false → new_name es (Ok k) ≡ Ok k
new_is_new es k h = rw h refl
