-- The canonical text is a spelling, and each of its integers is the shortest.
use Rattle.std.proofs.Common.{◌≡◌, inl, inr, ℕ, zero, suc, ◌^◌, ◌≤◌, ℤ, pos, negsuc, Bool, true, false, List, [], ◌∷◌, ◌++◌, length, Some, None, refl, ap, subst, arith, IsUtf8, FitsSigned, flat_map}
use Rattle.std.proofs.lemmas.Bool.{ltb-true, lt-ltb}
use Rattle.std.proofs.lemmas.Str.{IsUtf8-from_is_utf8}
use Rattle.std.specs.List.{AllByRecursion}
use Rattle.std.specs.Str.{is_utf8}
use Rattle.std.specs.Int.{Width, w8, w16, w32, w64, byte_len}
use mir.Val.{hbits}
use Rattle.bser_format.specs.Tree.{Tree, null, boolean, integer, real, bytes, text, array, object, template, Items, no_items, item, Entries, no_entries, entry, Rows, no_rows, row, Fields, no_fields, skip, field, items, entries, fields, rows}
use Rattle.bser_format.specs.Grammar.{Format, Bytes, Given, Each, SpellsInteger, SpellsCount, SpellsBytes, SpellsText, SpellsString, SpellsKey, SpellsEntry, SpellsField, Spells, IntSize, int8, int16, int32, int64, width_of, int_bytes, ◌then◌}
use Rattle.bser_format.specs.Canonical.{is_within, first_size, least_size, least_integer, least_count, canonical_bytes, canonical_text, canonical_key, canonical_body, canonical_items, canonical_entries, canonical_rows, canonical_fields, IsCount, IsWritableText, IsWritable, ItemsAreWritable, EntriesAreWritable, RowsAreWritable, FieldsAreWritable}
use Rattle.bser_format.specs.Measures.{depth, items_depth, entries_depth, rows_depth, fields_depth}

-- ---- integers

pub within_fits : (w : Width) (v : ℤ) → is_within (2 ^ hbits w) v ≡ true → FitsSigned w v
within_fits w (pos n) e = record { sfits = ltb-true n (2 ^ hbits w) e }
within_fits w (negsuc n) e = record { sfits = ltb-true n (2 ^ hbits w) e }

pub fits_within : (w : Width) (v : ℤ) → FitsSigned w v → is_within (2 ^ hbits w) v ≡ true
fits_within w (pos n) h = lt-ltb n (2 ^ hbits w) h.sfits
fits_within w (negsuc n) h = lt-ltb n (2 ^ hbits w) h.sfits

first_size_fits : (a b c : Bool) (v : ℤ) → is_within (2 ^ 7) v ≡ a → is_within (2 ^ 15) v ≡ b → is_within (2 ^ 31) v ≡ c → FitsSigned w64 v → FitsSigned (width_of (first_size a b c)) v
first_size_fits true b c v p q r h = within_fits w8 v p
first_size_fits false true c v p q r h = within_fits w16 v q
first_size_fits false false true v p q r h = within_fits w32 v r
first_size_fits false false false v p q r h = h

-- the bytes of the first size that holds a number are no more than those of another that does
first_size_le : (a b c : Bool) (s : IntSize) → (s ≡ int8 → a ≡ true) → (s ≡ int16 → b ≡ true) → (s ≡ int32 → c ≡ true) → byte_len (width_of (first_size a b c)) ≤ byte_len (width_of s)
first_size_le true b c int8 p q r = omega arith
first_size_le false b c int8 p q r = let e = p refl in cc
first_size_le false true c int16 p q r = omega arith
first_size_le false false c int16 p q r = let e = q refl in cc
first_size_le false false true int32 p q r = omega arith
first_size_le false false true int64 p q r = omega arith
first_size_le false false false int32 p q r = let e = r refl in cc
first_size_le false false false int64 p q r = omega arith
first_size_le true b c other p q r = omega arith
first_size_le false true c other p q r = omega arith

pub length-int_bytes : (s : IntSize) (v : ℤ) → length (int_bytes s v) ≡ suc (byte_len (width_of s))
length-int_bytes int8 v = refl
length-int_bytes other v = refl

pub least_integer_spelled : (v : ℤ) → FitsSigned w64 v → SpellsInteger v (least_integer v)
unfolding least_integer
least_integer_spelled v h = record { size = least_size v; fits = first_size_fits _ _ _ v refl refl refl h; spelled = refl }

pub least_integer_least : (v : ℤ) (b : List ℕ) → SpellsInteger v b → length (least_integer v) ≤ length b
unfolding least_integer
least_integer_least v b h =
    let within : (s : IntSize) → h.size ≡ s → is_within (2 ^ hbits (width_of s)) v ≡ true = λ s e. fits_within (width_of s) v (subst (λ k. FitsSigned (width_of k) v) e h.fits) in
    let shorter = first_size_le (is_within (2 ^ 7) v) (is_within (2 ^ 15) v) (is_within (2 ^ 31) v) h.size (within int8) (within int16) (within int32) in
    omega (arith, ap length h.spelled, length-int_bytes h.size v, length-int_bytes (least_size v) v)

pub count_spelled : (n : ℕ) → IsCount n → SpellsCount n (least_count n)
count_spelled n h = least_integer_spelled (pos n) (record { sfits = h })

-- ---- strings

pub joined : (F G : Format) (b c : List ℕ) → F b → G c → (F then G) (b ++ c)
joined F G b c f g = record { front = b; rest = c; whole = refl; first = f; second = g }

-- a tag, and what follows it
pub tagged : (t : ℕ) (F : Format) (b : List ℕ) → F b → (Bytes (t ∷ []) then F) (t ∷ b)
tagged t F b f = joined (Bytes (t ∷ [])) F (t ∷ []) b refl f

pub bytes_spelled : (s : List ℕ) → IsCount (length s) → SpellsBytes s (canonical_bytes s)
bytes_spelled s h = tagged 0x02 _ _ (joined (SpellsCount (length s)) (Bytes s) _ _ (count_spelled _ h) refl)

pub utf8_spelled : (s : List ℕ) → IsWritableText s → SpellsText s (canonical_text s)
utf8_spelled s h = tagged 0x0d _ _ (joined (SpellsCount (length s)) (Given (IsUtf8 s) (Bytes s)) _ _ (count_spelled _ h.1) (h.0, refl))

pub key_spelled : (k : List ℕ) → IsCount (length k) → SpellsString k (canonical_key k)
unfolding canonical_key
key_spelled k h = go (is_utf8 k) refl
  where
    go : (b : Bool) → is_utf8 k ≡ b → SpellsString k (canonical_key k)
    go true e = rw e (inr (utf8_spelled k (IsUtf8-from_is_utf8 k e, h)))
    go false e = rw e (inl (bytes_spelled k h))

keys_spelled : (ks : List (List ℕ)) → AllByRecursion IsWritableText ks → Each SpellsKey ks (flat_map canonical_text ks)
keys_spelled [] h = refl
keys_spelled (k ∷ ks) h = joined (SpellsKey k) (Each SpellsKey ks) _ _ (h.0.0, inr (utf8_spelled k h.0)) (keys_spelled ks h.1)

-- ---- values

mutual
  pub text_spelled : (n : ℕ) (t : Tree) → IsWritable t → depth t ≤ n → Spells n t (canonical_body t)
  text_spelled n null h l = refl
  text_spelled n (boolean v) h l = refl
  text_spelled n (integer v) h l = least_integer_spelled v h
  text_spelled n (real r) h l = (h, refl)
  text_spelled n (bytes s) h l = bytes_spelled s h
  text_spelled n (text s) h l = utf8_spelled s h
  text_spelled zero (array ts) h l = absurd (omega arith)
  text_spelled (suc n) (array ts) h l = tagged 0x00 _ _ (joined (SpellsCount (length (items ts))) (Each (Spells n) (items ts)) _ _ (count_spelled _ h.0) (items_spelled n ts h.1 (omega arith)))
  text_spelled (suc n) (object es) h l =
      tagged 0x01 _ _ (joined (SpellsCount (length (entries es))) (Each (SpellsEntry (Spells n)) (entries es)) _ _ (count_spelled _ h.0) (entries_spelled n es h.1 (omega arith)))
  text_spelled (suc zero) (template ks rs) h l = absurd (omega arith)
  text_spelled (suc (suc n)) (template ks rs) h l = (
    h.0,
    tagged 0x0b _ _ (tagged 0x00 _ _ (joined (SpellsCount (length ks)) _ _ _ (count_spelled _ h.1) (joined (Each SpellsKey ks) _ _ _ (keys_spelled ks h.2)
        (joined (SpellsCount (length (rows rs))) (Each (Each (SpellsField (Spells (suc n)))) (rows rs)) _ _ (count_spelled _ h.3) (rows_spelled (suc n) rs h.4 (omega arith)))))),
  )
  text_spelled zero other h l = absurd (omega arith)

  items_spelled : (n : ℕ) (ts : Items) → ItemsAreWritable ts → items_depth ts ≤ n → Each (Spells n) (items ts) (canonical_items ts)
  items_spelled n no_items h l = refl
  items_spelled n (item t ts) h l = joined (Spells n t) (Each (Spells n) (items ts)) _ _ (text_spelled n t h.0 (omega arith)) (items_spelled n ts h.1 (omega arith))

  entries_spelled : (n : ℕ) (es : Entries) → EntriesAreWritable es → entries_depth es ≤ n → Each (SpellsEntry (Spells n)) (entries es) (canonical_entries es)
  entries_spelled n no_entries h l = refl
  entries_spelled n (entry k t es) h l =
      joined (SpellsEntry (Spells n) (k, t)) (Each (SpellsEntry (Spells n)) (entries es)) _ _ (joined (SpellsString k) (Spells n t) _ _ (key_spelled k h.0) (text_spelled n t h.1 (omega arith))) (entries_spelled n es h.2 (omega arith))

  rows_spelled : (n : ℕ) (rs : Rows) → RowsAreWritable rs → rows_depth rs ≤ n → Each (Each (SpellsField (Spells n))) (rows rs) (canonical_rows rs)
  rows_spelled n no_rows h l = refl
  rows_spelled n (row fs rs) h l = joined (Each (SpellsField (Spells n)) (fields fs)) (Each (Each (SpellsField (Spells n))) (rows rs)) _ _ (fields_spelled n fs h.0 (omega arith)) (rows_spelled n rs h.1 (omega arith))

  fields_spelled : (n : ℕ) (fs : Fields) → FieldsAreWritable fs → fields_depth fs ≤ n → Each (SpellsField (Spells n)) (fields fs) (canonical_fields fs)
  fields_spelled n no_fields h l = refl
  fields_spelled n (skip fs) h l = joined (SpellsField (Spells n) None) (Each (SpellsField (Spells n)) (fields fs)) (0x0c ∷ []) _ refl (fields_spelled n fs h l)
  fields_spelled n (field t fs) h l = joined (SpellsField (Spells n) (Some t)) (Each (SpellsField (Spells n)) (fields fs)) _ _ (text_spelled n t h.0 (omega arith)) (fields_spelled n fs h.1 (omega arith))
