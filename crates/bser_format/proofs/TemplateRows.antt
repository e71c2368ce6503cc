-- What a template's rows are: the values of objects that all have the template's keys.
use Rattle.std.proofs.Common.{◌≡◌, ℕ, suc, ◌≤◌, Bool, true, false, cond, List, [], ◌∷◌, length, Option, Some, None, option_map, refl, sym, ap, subst, ◌∙◌, arith, bytes_eq}
use Rattle.std.specs.Prelude.{unwrap_or}
use Rattle.std.proofs.lemmas.Option.{same_Some}
use Rattle.std.proofs.lemmas.Bool.{and_parts, and_from}
use Rattle.std.proofs.lemmas.Slice.Eq.{bytes_eq-Decides}
use Rattle.std.specs.List.{AllByRecursion}
use Rattle.bser_format.specs.Tree.{Tree, array, object, template, Items, no_items, item, Entries, no_entries, entry, Rows, no_rows, row, items, entries, fields, rows}
use Rattle.bser_format.specs.Compact.{keys, values, same_keys, rows_with, as_template}
use Rattle.bser_format.proofs.Least.{map_some, guard_some}

-- ---- equal lists of keys

guard_true : {A : Type 0} (b : Bool) (o : Option A) (y : A) → cond b o None ≡ Some y → b ≡ true
guard_true true o y e = refl
guard_true false o y e = cc

same_keys_equal : (ks ls : List (List ℕ)) → same_keys ks ls ≡ true → ks ≡ ls
same_keys_equal [] [] e = refl
same_keys_equal [] (l ∷ ls) e = cc
same_keys_equal (k ∷ ks) [] e = cc
same_keys_equal (k ∷ ks) (l ∷ ls) e =
    let both = and_parts (bytes_eq k l) (same_keys ks ls) e in
    let one : k ≡ l = (bytes_eq-Decides k l).0 both.0 in
    let more : ks ≡ ls = same_keys_equal ks ls both.1 in
    rw (one, more) refl

pub same_keys_itself : (ks : List (List ℕ)) → same_keys ks ks ≡ true
same_keys_itself [] = refl
same_keys_itself (k ∷ ks) = and_from (bytes_eq k k) (same_keys ks ks) ((bytes_eq-Decides k k).1 refl) (same_keys_itself ks)

-- ---- rows

-- the items are objects of these keys, and the rows are their values
abbrev pub AreRows : List (List ℕ) → Items → Rows → Type 0
AreRows ks no_items no_rows = Unit {0}
AreRows ks (item (object es) ts) (row fs rs) = (keys es ≡ ks) × (values es ≡ fs) × AreRows ks ts rs
AreRows ks _ _ = ⊥

rows_made : (ks : List (List ℕ)) (ts : Items) (rs : Rows) → rows_with ks ts ≡ Some rs → AreRows ks ts rs
rows_made ks no_items rs e = subst (AreRows ks no_items) (same_Some no_rows rs e) tt
rows_made ks (item (object es) ts) rs e =
    map_some (row (values es)) (rows_with ks ts) rs (guard_some (same_keys (keys es) ks) _ rs e) λ qs some same.
    subst (AreRows ks (item (object es) ts)) same (same_keys_equal (keys es) ks (guard_true (same_keys (keys es) ks) _ rs e), refl, rows_made ks ts qs some)
rows_made ks (item t ts) rs e = cc

pub rows_taken : (ks : List (List ℕ)) (ts : Items) (rs : Rows) → AreRows ks ts rs → rows_with ks ts ≡ Some rs
rows_taken ks no_items no_rows h = refl
rows_taken ks (item (object es) ts) (row fs rs) h =
    let same : same_keys (keys es) ks ≡ true = subst (λ ls. same_keys (keys es) ls ≡ true) h.0 (same_keys_itself (keys es)) in
    let more = rows_taken ks ts rs h.2 in
    rw (same, more) (ap (λ f. Some (row f rs)) h.1)
rows_taken ks no_items (row fs rs) h = absurd h
rows_taken ks (item t ts) rs h = absurd h

made_or_whole : (P : Tree → Type 0) (ks : List (List ℕ)) (ts : Items) (o : Option Rows) → rows_with ks ts ≡ o → P (array ts) → ((rs : Rows) → AreRows ks ts rs → P (template ks rs))
    → P (unwrap_or (option_map (template ks) o) (array ts))
made_or_whole P ks ts None e whole made = whole
made_or_whole P ks ts (Some rs) e whole made = made rs (rows_made ks ts rs e)

-- an array of items stays as it is, or has two items at least, objects of one list of keys that is not empty
pub as_template_cases : (P : Tree → Type 0) (ts : Items) → P (array ts)
    → ((k : List ℕ) (ks : List (List ℕ)) (rs : Rows) → 2 ≤ length (items ts) → AreRows (k ∷ ks) ts rs → P (template (k ∷ ks) rs)) → P (as_template ts)
as_template_cases P (item (object (entry k t es)) (item u us)) whole made =
    made_or_whole P (k ∷ keys es) (item (object (entry k t es)) (item u us)) (rows_with (k ∷ keys es) (item (object (entry k t es)) (item u us))) refl whole (λ rs rows. made k (keys es) rs (omega arith) rows)
as_template_cases P ts whole made = whole

-- ---- how many

pub row_length : (es : Entries) → length (fields (values es)) ≡ length (keys es)
row_length no_entries = refl
row_length (entry k t es) = ap suc (row_length es)

pub keys_length : (es : Entries) → length (entries es) ≡ length (keys es)
keys_length no_entries = refl
keys_length (entry k t es) = ap suc (keys_length es)

pub rows_length : (ks : List (List ℕ)) (ts : Items) (rs : Rows) → AreRows ks ts rs → length (rows rs) ≡ length (items ts)
rows_length ks no_items no_rows h = refl
rows_length ks (item (object es) ts) (row fs rs) h = ap suc (rows_length ks ts rs h.2)
rows_length ks no_items (row fs rs) h = absurd h
rows_length ks (item t ts) rs h = absurd h

pub rows_even : (ks : List (List ℕ)) (ts : Items) (rs : Rows) → AreRows ks ts rs → AllByRecursion (λ r. length r ≡ length ks) (rows rs)
rows_even ks no_items no_rows h = tt
rows_even ks (item (object es) ts) (row fs rs) h = (sym (ap (λ f. length (fields f)) h.1) ∙ row_length es ∙ ap length h.0, rows_even ks ts rs h.2)
rows_even ks no_items (row fs rs) h = absurd h
rows_even ks (item t ts) rs h = absurd h
