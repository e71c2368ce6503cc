-- The heads of arrays, templates and objects, and what is due inside.
use Rattle.std.proofs.Common.{◌≡◌, ℕ, suc, Bool, List, [], ◌∷◌, ◌++◌, length, map, refl, ap, inl, inr}
use Rattle.std.specs.List.{AllByRecursion}
use Rattle.bser_format.specs.Tree.{Items, no_items, item, items, Entries, no_entries, entry, entries, Rows, no_rows, row, rows, Fields, no_fields, skip, field, fields}
use Rattle.bser_format.specs.Tree.{array, object, template}
use Rattle.bser_format.specs.Expand.{expand_items, expand_entries, expand_rows, expand_fields}
use Rattle.bser_format.specs.Grammar.{Format, Bytes, Each, Spells, SpellsCount, SpellsKey, SpellsEntry, SpellsField, IsTemplate, ◌then◌}
use Rattle.bser_format.specs.Expected.{Fills, node_due, field_due, row_due, WantedItems, nodes, rows_over, entries_of_object, fields_of_row, FillsItems, FillsPair, FillsPairs}
use Rattle.bser_format.specs.declared.errors.Kind.TheVariants.{TemplateKey}
use Rattle.bser_format.proofs.Fronts.{count_reads, many_all, key_reads}
use Rattle.bser_format.specs.Named.{reads, give, ◌>>=◌, next, count, many, text_of}
use Rattle.bser_format.specs.DueReaders.{tag, value_tag, rows_wanted, table_at, items_at, pairs_at}
use Rattle.bser_format.proofs.Steps.{Passes, Leaves, front_leaves, stays, bind_leaves}

-- ---- counts and keys

pub count_passes : (k : ℕ) (b : List ℕ) → SpellsCount k b → Passes count k b
count_passes k b h x = count_reads k b x h

pub keys_pass : (ks : List (List ℕ)) (b : List ℕ) → Each SpellsKey ks b → Passes (many (text_of TemplateKey) (length ks)) ks b
keys_pass ks b h x = many_all (text_of TemplateKey) SpellsKey key_reads ks b x h

-- a tag of a value
tag_passes : (t : ℕ) (b : List ℕ) → Bytes (t ∷ []) b → Passes next t b
tag_passes t b e x = ap (λ l. next (l ++ x)) e

pub tag_leaves : (skips : Bool) (t : ℕ) (G : Format) (b : List ℕ) → ((x : List ℕ) → value_tag skips t x ≡ reads (tag t) x) → (Bytes (t ∷ []) then G) b → Leaves (next >>= value_tag skips) (tag t) G b
tag_leaves skips t G b is h = bind_leaves next (value_tag skips) t (tag t) G G b (front_leaves next t (Bytes (t ∷ [])) G b (tag_passes t) h) (λ c g. stays (value_tag skips t) (tag t) G c g (λ x. is (c ++ x)))

-- ---- heads

pub array_head : (skips : Bool) (n : ℕ) (ts : Items) (b : List ℕ) → Spells (suc n) (array ts) b → Leaves (next >>= value_tag skips >>= items_at (suc n)) (nodes (length (items ts))) (Each (Spells n) (items ts)) b
array_head skips n ts b h =
    let G : Format = Each (Spells n) (items ts) in
    let k : ℕ = length (items ts) in
    bind_leaves (next >>= value_tag skips) (items_at (suc n)) (tag 0x00) (nodes k) (SpellsCount k then G) G b (tag_leaves skips 0x00 (SpellsCount k then G) b (λ x. refl) h)
    (λ c g. bind_leaves count (λ m. give (nodes m)) k (nodes k) G G c (front_leaves count k (SpellsCount k) G c (count_passes k) g) (λ d i. stays (give (nodes k)) (nodes k) G d i (λ x. refl)))

pub object_head : (skips : Bool) (n : ℕ) (es : Entries) (b : List ℕ) → Spells (suc n) (object es) b
    → Leaves (next >>= value_tag skips >>= pairs_at (suc n)) (entries_of_object (length (entries es))) (Each (SpellsEntry (Spells n)) (entries es)) b
object_head skips n es b h =
    let G : Format = Each (SpellsEntry (Spells n)) (entries es) in
    let k : ℕ = length (entries es) in
    bind_leaves (next >>= value_tag skips) (pairs_at (suc n)) (tag 0x01) (entries_of_object k) (SpellsCount k then G) G b (tag_leaves skips 0x01 (SpellsCount k then G) b (λ x. refl) h)
    (λ c g. bind_leaves count (λ m. give (entries_of_object m)) k (entries_of_object k) G G c (front_leaves count k (SpellsCount k) G c (count_passes k) g)
    (λ d i. stays (give (entries_of_object k)) (entries_of_object k) G d i (λ x. refl)))

wanted : (ks : List (List ℕ)) (rs : Rows) → IsTemplate ks (rows rs) → (x : List ℕ) → rows_wanted ks (length (rows rs)) x ≡ reads (rows_over ks (length (rows rs))) x
wanted [] no_rows e x = refl
wanted [] (row f rs) e x = cc
wanted (k ∷ ks) rs e x = refl

pub template_head : (skips : Bool) (n : ℕ) (ks : List (List ℕ)) (rs : Rows) (b : List ℕ) → Spells (suc (suc n)) (template ks rs) b
    → Leaves (next >>= value_tag skips >>= items_at (suc (suc n))) (rows_over ks (length (rows rs))) (Each (Each (SpellsField (Spells (suc n)))) (rows rs)) b
template_head skips n ks rs b h =
    let G : Format = Each (Each (SpellsField (Spells (suc n)))) (rows rs) in
    let m : ℕ = length (rows rs) in
    let C : Format = SpellsCount m then G in
    let K : Format = Each SpellsKey ks then C in
    let N : Format = SpellsCount (length ks) then K in
    let w : WantedItems = rows_over ks m in
    bind_leaves (next >>= value_tag skips) (items_at (suc (suc n))) (tag 0x0b) w (Bytes (0x00 ∷ []) then N) G b (tag_leaves skips 0x0b (Bytes (0x00 ∷ []) then N) b (λ x. refl) h.1)
    (λ c g. bind_leaves next (table_at (suc n)) 0x00 w N G c (front_leaves next 0x00 (Bytes (0x00 ∷ [])) N c (tag_passes 0x00) g)
    (λ c g. bind_leaves count (λ j. many (text_of TemplateKey) j >>= λ us. count >>= λ i. rows_wanted us i) (length ks) w K G c (front_leaves count (length ks) (SpellsCount (length ks)) K c (count_passes (length ks)) g)
    (λ c g. bind_leaves (many (text_of TemplateKey) (length ks)) (λ us. count >>= λ i. rows_wanted us i) ks w C G c (front_leaves (many (text_of TemplateKey) (length ks)) ks (Each SpellsKey ks) C c (keys_pass ks) g)
    (λ c g. bind_leaves count (λ i. rows_wanted ks i) m w G G c (front_leaves count m (SpellsCount m) G c (count_passes m) g)
    (λ c g. stays (rows_wanted ks m) w G c g (λ x. wanted ks rs h.0 (c ++ x)))))))

-- ---- what is due inside

items_due : (n : ℕ) (ts : Items) (b : List ℕ) → Each (Spells n) (items ts) b → Each (Fills n node_due) (items (expand_items ts)) b
items_due n no_items b h = h
items_due n (item t ts) b h = record { front = h.front; rest = h.rest; whole = h.whole; first = record { tree = t; stands = refl; spelled = h.first }; second = items_due n ts h.rest h.second }

items_length : (ts : Items) → length (items (expand_items ts)) ≡ length (items ts)
items_length no_items = refl
items_length (item t ts) = ap suc (items_length ts)

pub array_fills : (n : ℕ) (ts : Items) (b : List ℕ) → Each (Spells n) (items ts) b → FillsItems n (nodes (length (items ts))) (expand_items ts) b
array_fills n ts b h = (items_length ts, items_due n ts b h)

rows_even : (ks : List (List ℕ)) (rs : List _) → IsTemplate ks rs → AllByRecursion (λ r. length r ≡ length ks) rs
rows_even [] [] e = tt
rows_even [] (r ∷ rs) e = cc
rows_even (k ∷ ks) rs e = e

rows_due : (n : ℕ) (ks : List (List ℕ)) (rs : Rows) (b : List ℕ) → AllByRecursion (λ r. length r ≡ length ks) (rows rs) → Each (Each (SpellsField (Spells n))) (rows rs) b → Each (Fills n (row_due ks)) (items (expand_rows ks rs)) b
rows_due n ks no_rows b even h = h
rows_due n ks (row fs rs) b even h = record { front = h.front; rest = h.rest; whole = h.whole; first = record { row = fs; even = even.0; stands = refl; spelled = h.first }; second = rows_due n ks rs h.rest even.1 h.second }

rows_length : (ks : List (List ℕ)) (rs : Rows) → length (items (expand_rows ks rs)) ≡ length (rows rs)
rows_length ks no_rows = refl
rows_length ks (row fs rs) = ap suc (rows_length ks rs)

pub template_fills : (n : ℕ) (ks : List (List ℕ)) (rs : Rows) (b : List ℕ) → IsTemplate ks (rows rs) → Each (Each (SpellsField (Spells n))) (rows rs) b → FillsItems n (rows_over ks (length (rows rs))) (expand_rows ks rs) b
template_fills n ks rs b is h = (rows_length ks rs, rows_due n ks rs b (rows_even ks (rows rs) is) h)

entries_due : (n : ℕ) (es : Entries) (b : List ℕ) → Each (SpellsEntry (Spells n)) (entries es) b → Each (FillsPair n) (entries (expand_entries es)) b
entries_due n no_entries b h = h
entries_due n (entry k t es) b h =
    let e = h.first in
    record {
      front = h.front;
      rest = h.rest;
      whole = h.whole;
      first = record { front = e.front; rest = e.rest; whole = e.whole; first = e.first; second = record { tree = t; stands = refl; spelled = e.second } };
      second = entries_due n es h.rest h.second;
    }

entries_length : (es : Entries) → length (entries (expand_entries es)) ≡ length (entries es)
entries_length no_entries = refl
entries_length (entry k t es) = ap suc (entries_length es)

pub object_fills : (n : ℕ) (es : Entries) (b : List ℕ) → Each (SpellsEntry (Spells n)) (entries es) b → FillsPairs n (entries_of_object (length (entries es))) (expand_entries es) b
object_fills n es b h = (entries_length es, entries_due n es b h)

fields_due : (n : ℕ) (ks : List (List ℕ)) (fs : Fields) (b : List ℕ) → length (fields fs) ≡ length ks → Each (SpellsField (Spells n)) (fields fs) b → Each (λ e. Fills n field_due e.1) (entries (expand_fields ks fs)) b
fields_due n [] no_fields b even h = h
fields_due n [] (skip fs) b even h = absurd cc
fields_due n [] (field t fs) b even h = absurd cc
fields_due n (k ∷ ks) no_fields b even h = absurd cc
fields_due n (k ∷ ks) (skip fs) b even h = record { front = h.front; rest = h.rest; whole = h.whole; first = inl (refl, h.first); second = fields_due n ks fs h.rest (cc) h.second }
fields_due n (k ∷ ks) (field t fs) b even h = record { front = h.front; rest = h.rest; whole = h.whole; first = inr (record { tree = t; stands = refl; spelled = h.first }); second = fields_due n ks fs h.rest (cc) h.second }

fields_keys : (ks : List (List ℕ)) (fs : Fields) → length (fields fs) ≡ length ks → map (λ e. e.0) (entries (expand_fields ks fs)) ≡ ks
fields_keys [] fs even = refl
fields_keys (k ∷ ks) no_fields even = absurd cc
fields_keys (k ∷ ks) (skip fs) even = ap (λ l. k ∷ l) (fields_keys ks fs (cc))
fields_keys (k ∷ ks) (field t fs) even = ap (λ l. k ∷ l) (fields_keys ks fs (cc))

pub row_fills : (n : ℕ) (ks : List (List ℕ)) (fs : Fields) (b : List ℕ) → length (fields fs) ≡ length ks → Each (SpellsField (Spells n)) (fields fs) b → FillsPairs n (fields_of_row ks) (expand_fields ks fs) b
row_fills n ks fs b even h = (fields_keys ks fs even, fields_due n ks fs b even h)
