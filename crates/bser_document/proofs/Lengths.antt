-- What is kept of a value is no longer than its bytes.
use Rattle.std.proofs.Common.{◌≡◌, ◌≤◌, ◌+◌, ℕ, zero, suc, ℤ, List, [], ◌∷◌, ◌++◌, length, sym, ap, subst, arith, inl, inr, pos}
use Rattle.std.proofs.lemmas.List.{length-append}
use Rattle.bser_format.specs.Tree.{Tree, null, boolean, integer, real, bytes, text, array, object, template, Items, no_items, item, Entries, no_entries, entry, Rows, no_rows, row, Fields, no_fields, skip, field, items, entries, fields, rows}
use Rattle.bser_format.specs.Grammar.{Each, SpellsInteger, SpellsString, SpellsBytes, SpellsText, SpellsEntry, SpellsField, SpellsKey, Spells}
use Rattle.bser_events.specs.Events as told
use Rattle.bser_events.specs.Events.{Event, events, item_events, entry_events, row_events, field_events, key_events}
use Rattle.bser_document.specs.DocumentView.{string_lens, weight}

-- ---- weights of lists

lens_append : (a b : List Event) → string_lens (a ++ b) ≡ string_lens a + string_lens b
lens_append [] b = omega arith
lens_append (e ∷ a) b = omega (arith, lens_append a b)

weight_append : (a b : List Event) → weight (a ++ b) ≡ weight a + weight b
weight_append a b = omega (arith, length-append a b, lens_append a b)

-- ---- strings and counts

integer_long : (v : ℤ) (b : List ℕ) → SpellsInteger v b → 1 ≤ length b
integer_long v b h = subst (λ l. 1 ≤ length l) (sym h.spelled) (omega arith)

bytes_long : (s b : List ℕ) → SpellsBytes s b → 1 + length s ≤ length b
bytes_long s b h = omega (arith, ap length h.whole, length-append h.front h.rest, ap length h.first, ap length h.second.whole, length-append h.second.front h.second.rest, ap length h.second.second)

text_long : (s b : List ℕ) → SpellsText s b → 1 + length s ≤ length b
text_long s b h = omega (arith, ap length h.whole, length-append h.front h.rest, ap length h.first, ap length h.second.whole, length-append h.second.front h.second.rest, ap length h.second.second.1)

string_long : (s b : List ℕ) → SpellsString s b → 1 + length s ≤ length b
string_long s b (inl h) = bytes_long s b h
string_long s b (inr h) = text_long s b h

keys_long : (ks : List (List ℕ)) (b : List ℕ) → Each SpellsKey ks b → weight (key_events ks) ≤ length b
keys_long [] b h = omega (arith, ap length h)
keys_long (k ∷ ks) b h =
    omega (arith, ap length h.whole, length-append h.front h.rest, string_long k h.front h.first.1, keys_long ks h.rest h.second)

-- ---- values

mutual
  pub value_long : (n : ℕ) (t : Tree) (b : List ℕ) → Spells n t b → weight (events t) ≤ length b
  value_long n null b h = omega (arith, ap length h)
  value_long n (boolean v) b h = omega (arith, ap length h)
  value_long n (integer v) b h = integer_long v b h
  value_long n (real r) b h = omega (arith, ap length h.1)
  value_long n (bytes s) b h = omega (arith, bytes_long s b h)
  value_long n (text s) b h = omega (arith, text_long s b h)
  value_long zero (array ts) b h = absurd h
  value_long (suc n) (array ts) b h =
      omega (
        arith,
        ap length h.whole,
        length-append h.front h.rest,
        ap length h.first,
        ap length h.second.whole,
        length-append h.second.front h.second.rest,
        integer_long (pos (length (items ts))) h.second.front h.second.first,
        items_long n ts h.second.rest h.second.second,
        weight_append (item_events ts) (told.close ∷ []),
      )
  value_long zero (object es) b h = absurd h
  value_long (suc n) (object es) b h =
      omega (
        arith,
        ap length h.whole,
        length-append h.front h.rest,
        ap length h.first,
        ap length h.second.whole,
        length-append h.second.front h.second.rest,
        integer_long (pos (length (entries es))) h.second.front h.second.first,
        entries_long n es h.second.rest h.second.second,
        weight_append (entry_events es) (told.close ∷ []),
      )
  value_long zero (template ks rs) b h = absurd h
  value_long (suc zero) (template ks rs) b h = absurd h
  value_long (suc (suc n)) (template ks rs) b h =
      let a = h.1 in
      let c = a.second in
      let d = c.second in
      let e = d.second in
      let f = e.second in
      omega (
        arith,
        ap length a.whole,
        length-append a.front a.rest,
        ap length a.first,
        ap length c.whole,
        length-append c.front c.rest,
        ap length c.first,
        ap length d.whole,
        length-append d.front d.rest,
        ap length e.whole,
        length-append e.front e.rest,
        integer_long (pos (length ks)) d.front d.first,
        integer_long (pos (length (rows rs))) f.front f.first,
        keys_long ks e.front e.first,
        ap length f.whole,
        length-append f.front f.rest,
        rows_long (suc n) rs f.rest f.second,
        weight_append (told.open_template (length ks) ∷ key_events ks) (told.open_rows (length (rows rs)) ∷ (row_events rs ++ told.close ∷ [])),
        weight_append (row_events rs) (told.close ∷ []),
      )

  items_long : (n : ℕ) (ts : Items) (b : List ℕ) → Each (Spells n) (items ts) b → weight (item_events ts) ≤ length b
  items_long n no_items b h = omega (arith, ap length h)
  items_long n (item t ts) b h =
      omega (arith, ap length h.whole, length-append h.front h.rest, value_long n t h.front h.first, items_long n ts h.rest h.second, weight_append (events t) (item_events ts))

  entries_long : (n : ℕ) (es : Entries) (b : List ℕ) → Each (SpellsEntry (Spells n)) (entries es) b → weight (entry_events es) ≤ length b
  entries_long n no_entries b h = omega (arith, ap length h)
  entries_long n (entry k t es) b h =
      let p = h.first in
      omega (
        arith,
        ap length h.whole,
        length-append h.front h.rest,
        ap length p.whole,
        length-append p.front p.rest,
        string_long k p.front p.first,
        value_long n t p.rest p.second,
        entries_long n es h.rest h.second,
        weight_append (told.key k ∷ events t) (entry_events es),
      )

  rows_long : (n : ℕ) (rs : Rows) (b : List ℕ) → Each (Each (SpellsField (Spells n))) (rows rs) b → weight (row_events rs) ≤ length b
  rows_long n no_rows b h = omega (arith, ap length h)
  rows_long n (row fs rs) b h =
      omega (arith, ap length h.whole, length-append h.front h.rest, fields_long n fs h.front h.first, rows_long n rs h.rest h.second, weight_append (field_events fs) (row_events rs))

  fields_long : (n : ℕ) (fs : Fields) (b : List ℕ) → Each (SpellsField (Spells n)) (fields fs) b → weight (field_events fs) ≤ length b
  fields_long n no_fields b h = omega (arith, ap length h)
  fields_long n (skip fs) b h =
      omega (arith, ap length h.whole, length-append h.front h.rest, ap length h.first, fields_long n fs h.rest h.second)
  fields_long n (field t fs) b h =
      omega (arith, ap length h.whole, length-append h.front h.rest, value_long n t h.front h.first, fields_long n fs h.rest h.second, weight_append (events t) (field_events fs))
