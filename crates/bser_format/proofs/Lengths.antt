-- How long the canonical bodies of containers are.
use Rattle.std.proofs.Common.{◌≡◌, ℕ, ◌+◌, ◌≤◌, ℤ, List, [], ◌∷◌, ◌++◌, length, refl, ap, ◌∙◌, arith, flat_map}
use Rattle.std.proofs.lemmas.List.{length-append}
use Rattle.std.specs.Int.{w32, to_le_bytes}
use Rattle.std.specs.Str.{is_utf8}
use Rattle.bser_format.specs.Tree.{Tree, null, boolean, integer, real, bytes, text, array, object, template, Items, no_items, item, Entries, no_entries, entry, Rows, row, Fields, field, items, entries, rows}
use Rattle.bser_format.specs.Grammar.{Each, SpellsKey}
use Rattle.bser_format.specs.Message.{IsMessage}
use Rattle.bser_format.specs.Canonical.{least_integer, least_size, least_count, canonical_text, canonical_key, canonical_body, canonical_items, canonical_entries, canonical_rows, canonical_fields, canonical_message}
use Rattle.bser_format.specs.Compact.{keys, values}
use Rattle.bser_format.proofs.Canon.{least_integer_least, length-int_bytes}
use Rattle.bser_format.proofs.Least.{length-key, key_least, least_count_grows}
use Rattle.bser_format.proofs.Sizes.{length_then}
use Rattle.bser_format.proofs.TemplateRows.{keys_length}

-- ---- keys

key_length : (k : List ℕ) → length (canonical_key k) ≡ length (canonical_text k)
unfolding canonical_key
key_length k = length-key (is_utf8 k) k

pub key_long : (k : List ℕ) → length k ≤ length (canonical_key k)
key_long k = omega (arith, key_length k, length-append (least_count (length k)) k)

-- how long keys are
abbrev pub names : List (List ℕ) → ℕ
names [] = 0
names (k ∷ ks) = length (canonical_key k) + names ks

pub keys_least : (ks : List (List ℕ)) (b : List ℕ) → Each SpellsKey ks b → names ks ≤ length b
keys_least [] b h = omega arith
keys_least (k ∷ ks) b h = omega (arith, length_then h, key_least k h.front h.first.1, keys_least ks h.rest h.second)

names_length : (ks : List (List ℕ)) → length (flat_map canonical_text ks) ≡ names ks
names_length [] = refl
names_length (k ∷ ks) = omega (arith, length-append (canonical_text k) (flat_map canonical_text ks), key_length k, names_length ks)

-- ---- containers

pub length-item : (t : Tree) (ts : Items) → length (canonical_items (item t ts)) ≡ length (canonical_body t) + length (canonical_items ts)
length-item t ts = length-append (canonical_body t) (canonical_items ts)

pub length-entry : (k : List ℕ) (t : Tree) (es : Entries) → length (canonical_entries (entry k t es)) ≡ length (canonical_key k) + length (canonical_body t) + length (canonical_entries es)
length-entry k t es = omega (arith, length-append (canonical_key k ++ canonical_body t) (canonical_entries es), length-append (canonical_key k) (canonical_body t))

pub length-row : (fs : Fields) (rs : Rows) → length (canonical_rows (row fs rs)) ≡ length (canonical_fields fs) + length (canonical_rows rs)
length-row fs rs = length-append (canonical_fields fs) (canonical_rows rs)

pub length-field : (t : Tree) (fs : Fields) → length (canonical_fields (field t fs)) ≡ length (canonical_body t) + length (canonical_fields fs)
length-field t fs = length-append (canonical_body t) (canonical_fields fs)

pub length-array : (ts : Items) → length (canonical_body (array ts)) ≡ 1 + length (least_count (length (items ts))) + length (canonical_items ts)
length-array ts = omega (arith, length-append (least_count (length (items ts))) (canonical_items ts))

-- an object, as its entries
pub length-pairs : (es : Entries) → length (canonical_body (object es)) ≡ 1 + length (least_count (length (entries es))) + length (canonical_entries es)
length-pairs es = omega (arith, length-append (least_count (length (entries es))) (canonical_entries es))

pub length-entries : (es : Entries) → length (canonical_entries es) ≡ names (keys es) + length (canonical_fields (values es))
length-entries no_entries = refl
length-entries (entry k t es) = omega (arith, length-entry k t es, length-field t (values es), length-entries es)

-- the head of an object with these keys, and the keys
abbrev pub head_size : List (List ℕ) → ℕ
head_size ks = 1 + length (least_count (length ks)) + names ks

pub length-object : (es : Entries) → length (canonical_body (object es)) ≡ head_size (keys es) + length (canonical_fields (values es))
length-object es =
    omega (arith, length-pairs es, ap (λ n. length (least_count n)) (keys_length es), length-entries es)

pub length-template : (ks : List (List ℕ)) (rs : Rows) → length (canonical_body (template ks rs)) ≡ 1 + head_size ks + length (least_count (length (rows rs))) + length (canonical_rows rs)
length-template ks rs =
    omega (
      arith,
      length-append (least_count (length ks)) (flat_map canonical_text ks ++ (least_count (length (rows rs)) ++ canonical_rows rs)),
      length-append (flat_map canonical_text ks) (least_count (length (rows rs)) ++ canonical_rows rs),
      length-append (least_count (length (rows rs))) (canonical_rows rs),
      names_length ks,
    )

-- ---- rows

-- an object is its head and its row
pub object_row : (ks : List (List ℕ)) (es : Entries) (fs : Fields) → keys es ≡ ks → values es ≡ fs → length (canonical_body (object es)) ≡ head_size ks + length (canonical_fields fs)
object_row ks es fs p q = length-object es ∙ ap (λ l. head_size l + length (canonical_fields (values es))) p ∙ ap (λ f. head_size ks + length (canonical_fields f)) q

-- ---- what is not empty

integer_nonempty : (v : ℤ) → 1 ≤ length (least_integer v)
unfolding least_integer
integer_nonempty v = omega (arith, length-int_bytes (least_size v) v)

pub body_nonempty : (t : Tree) → 1 ≤ length (canonical_body t)
body_nonempty null = omega arith
body_nonempty (integer v) = integer_nonempty v
body_nonempty other = omega arith

pub items_few : (ts : Items) → length (items ts) ≤ length (canonical_items ts)
items_few no_items = omega arith
items_few (item t ts) = omega (arith, length-item t ts, body_nonempty t, items_few ts)

pub entries_few : (es : Entries) → length (entries es) ≤ length (canonical_entries es)
entries_few no_entries = omega arith
entries_few (entry k t es) = omega (arith, length-entry k t es, body_nonempty t, entries_few es)

pub values_few : (es : Entries) → length (keys es) ≤ length (canonical_fields (values es))
values_few no_entries = omega arith
values_few (entry k t es) = omega (arith, length-field t (values es), body_nonempty t, values_few es)

-- ---- messages

pub length-message : (t : Tree) → length (canonical_message t) ≡ 6 + length (least_count (length (canonical_body t))) + length (canonical_body t)
length-message t = omega (arith, length-append (least_count (length (canonical_body t))) (canonical_body t), length-append (to_le_bytes w32 0) (least_count (length (canonical_body t)) ++ canonical_body t))

-- a message whose body is no longer is no longer
pub message_least : (n c : ℕ) (t u : Tree) (b : List ℕ) (m : IsMessage n c u b) → length (canonical_body t) ≤ length m.body → length (canonical_message t) ≤ length b
message_least n c t u b m body =
    let h = m.whole in
    omega (
      arith,
      body,
      length-message t,
      least_count_grows (length (canonical_body t)) (length m.body) body,
      least_integer_least _ _ h.second.second.first,
      length_then h,
      ap length h.first,
      length_then h.second,
      ap length h.second.first,
      length_then h.second.second,
      ap length h.second.second.second,
    )
