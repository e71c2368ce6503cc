-- A value has fewer nodes than twice its bytes.
use Rattle.std.proofs.Common.{◌≡◌, ℕ, zero, suc, ◌+◌, ◌*◌, ◌≤◌, ℤ, List, [], ◌∷◌, length, ap, ◌∙◌, arith}
use Rattle.std.proofs.lemmas.List.{length-append}
use Rattle.bser_format.specs.Tree.{Tree, null, boolean, integer, real, bytes, text, array, object, template, Items, no_items, item, Entries, no_entries, entry, Rows, no_rows, row, Fields, no_fields, skip, field, items, entries, fields, rows}
use Rattle.bser_format.specs.Grammar.{Format, Each, SpellsInteger, SpellsEntry, SpellsField, IsTemplate, Spells, ◌then◌}
use Rattle.bser_format.specs.Expand.{expand, expand_items, expand_entries, expand_rows, expand_fields}
use Rattle.bser_format.specs.Measures.{nodes, items_nodes, entries_nodes}

pub length_then : {F G : Format} {b : List ℕ} (h : (F then G) b) → length b ≡ length h.front + length h.rest
length_then h = ap length h.whole ∙ length-append h.front h.rest

int_nonempty : (v : ℤ) (b : List ℕ) → SpellsInteger v b → 1 ≤ length b
int_nonempty v b h = let e = ap length h.spelled in omega arith

abbrev pub Bounded : (Tree → Format) → Type 0
Bounded F = (t : Tree) (b : List ℕ) → F t b → nodes (expand t) + 1 ≤ 2 * length b

items_below : (F : Tree → Format) → Bounded F → (ts : Items) (b : List ℕ) → Each F (items ts) b → items_nodes (expand_items ts) ≤ 2 * length b
items_below F one no_items b h = omega arith
items_below F one (item t ts) b h = omega (arith, length_then h, one t h.front h.first, items_below F one ts h.rest h.second)

entries_below : (F : Tree → Format) → Bounded F → (es : Entries) (b : List ℕ) → Each (SpellsEntry F) (entries es) b → entries_nodes (expand_entries es) ≤ 2 * length b
entries_below F one no_entries b h = omega arith
entries_below F one (entry k t es) b h = omega (arith, length_then h, length_then h.first, one t h.first.rest h.first.second, entries_below F one es h.rest h.second)

fields_below : (F : Tree → Format) → Bounded F → (ks : List (List ℕ)) (fs : Fields) (b : List ℕ) → length (fields fs) ≡ length ks → Each (SpellsField F) (fields fs) b
    → entries_nodes (expand_fields ks fs) + length ks ≤ 2 * length b
fields_below F one [] fs b e h = omega arith
fields_below F one (k ∷ ks) no_fields b e h = absurd (omega arith)
fields_below F one (k ∷ ks) (skip fs) b e h = omega (arith, length_then h, ap length h.first, fields_below F one ks fs h.rest (omega arith) h.second)
fields_below F one (k ∷ ks) (field t fs) b e h = omega (arith, length_then h, one t h.front h.first, fields_below F one ks fs h.rest (omega arith) h.second)

rows_below : (F : Tree → Format) → Bounded F → (ks : List (List ℕ)) (rs : Rows) (b : List ℕ) → IsTemplate ks (rows rs) → Each (Each (SpellsField F)) (rows rs) b → items_nodes (expand_rows ks rs) ≤ 2 * length b
rows_below F one ks no_rows b e h = omega arith
rows_below F one [] (row fs rs) b e h = cc
rows_below F one (k ∷ ks) (row fs rs) b e h = omega (arith, length_then h, fields_below F one (k ∷ ks) fs h.front e.0 h.first, rows_below F one (k ∷ ks) rs h.rest e.1 h.second)

pub nodes_below : (n : ℕ) → Bounded (Spells n)
nodes_below n null b h = omega (arith, ap length h)
nodes_below n (boolean v) b h = omega (arith, ap length h)
nodes_below n (integer v) b h = omega (arith, int_nonempty v b h)
nodes_below n (real r) b h = omega (arith, ap length h.1)
nodes_below n (bytes s) b h = omega (arith, length_then h, ap length h.first)
nodes_below n (text s) b h = omega (arith, length_then h, ap length h.first)
nodes_below zero (array ts) b h = absurd h
nodes_below (suc n) (array ts) b h = omega (arith, length_then h, ap length h.first, length_then h.second, items_below (Spells n) (nodes_below n) ts h.second.rest h.second.second)
nodes_below (suc n) (object es) b h = omega (arith, length_then h, ap length h.first, length_then h.second, entries_below (Spells n) (nodes_below n) es h.second.rest h.second.second)
nodes_below (suc zero) (template ks rs) b h = absurd h
nodes_below (suc (suc n)) (template ks rs) b h =
    let s = h.1 in
    let rest = s.second.second.second.second in
    omega (
      arith,
      length_then s,
      ap length s.first,
      length_then s.second,
      length_then s.second.second,
      length_then s.second.second.second,
      length_then rest,
      rows_below (Spells (suc n)) (nodes_below (suc n)) ks rs rest.rest h.0 rest.second,
    )
nodes_below zero other b h = absurd h
