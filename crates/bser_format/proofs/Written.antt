-- A template written out is spelled as the array of its rows.
use Rattle.std.proofs.Common.{pos, ◌<◌, ◌^◌, FitsSigned, ◌≡◌, ℕ, zero, suc, List, [], ◌∷◌, length, Option, refl, sym, ap, subst, ◌∙◌, arith}
use Rattle.std.specs.List.{AllByRecursion}
use Rattle.bser_format.specs.Tree.{Tree, null, array, object, template, item, entry, Rows, no_rows, row, Fields, no_fields, skip, field, items, entries, fields, rows}
use Rattle.bser_format.specs.Grammar.{IntSize, int8, int16, int32, int64, width_of, Each, SpellsCount, SpellsString, SpellsKey, SpellsEntry, SpellsField, IsTemplate, Spells}
use Rattle.bser_format.specs.Expand.{expand, expand_items, expand_rows, expand_fields, expand_entries}
use Rattle.bser_format.specs.Canonical.{least_count, IsCount}
use Rattle.bser_format.specs.WrittenOut.{own_bytes, row_out, rows_out, written_out, row_entries, row_items, row_objects}
use Rattle.bser_format.proofs.Canon.{joined, tagged, count_spelled}

-- ---- the same expansion

same_entries : (ks : List (List ℕ)) (fs : Fields) → expand_entries (row_entries ks fs) ≡ expand_fields ks fs
same_entries [] fs = refl
same_entries (k ∷ ks) no_fields = refl
same_entries (k ∷ ks) (skip fs) = ap (entry k null) (same_entries ks fs)
same_entries (k ∷ ks) (field t fs) = ap (entry k (expand t)) (same_entries ks fs)

same_rows : (ks : List (List ℕ)) (rs : Rows) → expand_items (row_items ks rs) ≡ expand_rows ks rs
same_rows ks no_rows = refl
same_rows ks (row fs rs) = ap (λ es. item (object es) (expand_items (row_items ks rs))) (same_entries ks fs) ∙ ap (item (object (expand_fields ks fs))) (same_rows ks rs)

pub same_expansion : (ks : List (List ℕ)) (rs : Rows) → expand (row_objects ks rs) ≡ expand (template ks rs)
same_expansion ks rs = ap array (same_rows ks rs)

-- ---- the spelling

-- a spelling of each key
abbrev pub AreKeys : List (List ℕ) → List (List ℕ) → Type 0
AreKeys [] [] = Unit {0}
AreKeys (k ∷ ks) (b ∷ bs) = SpellsString k b × AreKeys ks bs
AreKeys _ _ = ⊥

parts_keys : (ks : List (List ℕ)) (b : List ℕ) (h : Each SpellsKey ks b) → AreKeys ks (own_bytes SpellsKey ks b h)
parts_keys [] b h = tt
parts_keys (k ∷ ks) b h = (h.first.1, parts_keys ks h.rest h.second)

length-keys : (ks bs : List (List ℕ)) → AreKeys ks bs → length bs ≡ length ks
length-keys [] [] h = refl
length-keys [] (b ∷ bs) h = absurd h
length-keys (k ∷ ks) [] h = absurd h
length-keys (k ∷ ks) (b ∷ bs) h = ap suc (length-keys ks bs h.1)

row_spelled : (n : ℕ) (ks bs : List (List ℕ)) → AreKeys ks bs → (fs : Fields) (b : List ℕ) → length (fields fs) ≡ length ks → (h : Each (SpellsField (Spells n)) (fields fs) b)
    → (length (entries (row_entries ks fs)) ≡ length ks) × Each (SpellsEntry (Spells n)) (entries (row_entries ks fs)) (row_out (Spells n) bs (fields fs) b h)
row_spelled n [] [] ok fs b e h = (refl, refl)
row_spelled n [] (c ∷ bs) ok fs b e h = absurd ok
row_spelled n (k ∷ ks) [] ok fs b e h = absurd ok
row_spelled n (k ∷ ks) (c ∷ bs) ok no_fields b e h = absurd (omega arith)
row_spelled n (k ∷ ks) (c ∷ bs) ok (skip fs) b e h =
    let more = row_spelled n ks bs ok.1 fs h.rest (omega arith) h.second in
    (ap suc more.0, joined (SpellsEntry (Spells n) (k, null)) (Each (SpellsEntry (Spells n)) (entries (row_entries ks fs))) _ _ (joined (SpellsString k) (Spells n null) _ _ ok.0 refl) more.1)
row_spelled n (k ∷ ks) (c ∷ bs) ok (field t fs) b e h =
    let more = row_spelled n ks bs ok.1 fs h.rest (omega arith) h.second in
    (ap suc more.0, joined (SpellsEntry (Spells n) (k, t)) (Each (SpellsEntry (Spells n)) (entries (row_entries ks fs))) _ _ (joined (SpellsString k) (Spells n t) _ _ ok.0 h.first) more.1)

rows_spelled : (n : ℕ) (ks bs : List (List ℕ)) → AreKeys ks bs → IsCount (length ks) → (rs : Rows) (b : List ℕ) → AllByRecursion (λ r. length r ≡ length ks) (rows rs) → (h : Each (Each (SpellsField (Spells n))) (rows rs) b)
    → (length (items (row_items ks rs)) ≡ length (rows rs)) × Each (Spells (suc n)) (items (row_items ks rs)) (rows_out (Spells n) bs (rows rs) b h)
rows_spelled n ks bs ok small no_rows b all h = (refl, refl)
rows_spelled n ks bs ok small (row fs rs) b all h =
    let one = row_spelled n ks bs ok fs h.front all.0 h.first in
    let more = rows_spelled n ks bs ok small rs h.rest all.1 h.second in
    let E : List (List ℕ × Tree) = entries (row_entries ks fs) in
    let counted : SpellsCount (length E) (least_count (length bs)) = subst (λ k. SpellsCount k (least_count (length bs))) (length-keys ks bs ok ∙ sym one.0) (count_spelled (length bs) (subst IsCount (sym (length-keys ks bs ok)) small)) in (
      ap suc more.0,
      joined (Spells (suc n) (object (row_entries ks fs))) (Each (Spells (suc n)) (items (row_items ks rs))) _ _
          (tagged 0x01 _ _ (joined (SpellsCount (length E)) (Each (SpellsEntry (Spells n)) E) _ _ counted one.1)) more.1,
    )

-- the rows of a template have a field for each key
even_rows : (ks : List (List ℕ)) (rs : List (List (Option Tree))) → IsTemplate ks rs → AllByRecursion (λ r. length r ≡ length ks) rs
even_rows [] [] e = tt
even_rows [] (r ∷ rs) e = cc
even_rows (k ∷ ks) rs e = e

small_size : (s : IntSize) (n : ℕ) → FitsSigned (width_of s) (pos n) → IsCount n
small_size int8 n h = let below : n < 2 ^ 7 = h.sfits in omega arith
small_size int16 n h = let below : n < 2 ^ 15 = h.sfits in omega arith
small_size int32 n h = let below : n < 2 ^ 31 = h.sfits in omega arith
small_size int64 n h = h.sfits

-- a count that is spelled is small
small_count : (n : ℕ) (b : List ℕ) → SpellsCount n b → IsCount n
small_count n b h = small_size h.size n h.fits

pub written_out_spelled : (n : ℕ) (ks : List (List ℕ)) (rs : Rows) (b : List ℕ) → (h : Spells n (template ks rs) b) → Spells (suc n) (row_objects ks rs) (written_out n ks rs b h)
written_out_spelled zero ks rs b h = absurd h
written_out_spelled (suc zero) ks rs b h = absurd h
written_out_spelled (suc (suc n)) ks rs b h =
    let keyed = h.1.second.second.second in
    let last = keyed.second in
    let few = small_count (length ks) _ h.1.second.second.first in
    let spelled = rows_spelled (suc n) ks (own_bytes SpellsKey ks keyed.front keyed.first) (parts_keys ks keyed.front keyed.first) few rs last.rest (even_rows ks (rows rs) h.0) last.second in
    tagged 0x00 _ _ (joined (SpellsCount (length (items (row_items ks rs)))) (Each (Spells (suc (suc n))) (items (row_items ks rs))) _ _
    (subst (λ k. SpellsCount k (least_count (length (rows rs)))) (sym spelled.0) (count_spelled (length (rows rs)) (small_count (length (rows rs)) _ last.first))) spelled.1)
