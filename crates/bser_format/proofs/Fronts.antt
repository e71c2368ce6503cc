-- What is spelled at the front of a byte list is what reading gives.
use Rattle.std.proofs.Common.{◌≡◌, inl, inr, ℕ, zero, suc, ◌^◌, ◌<◌, ◌≤◌, ℤ, pos, Bool, true, false, cond, List, [], ◌∷◌, ◌++◌, length, Option, Some, None, refl, sym, ap, subst, ◌∙◌, append_assoc, arith, IsUtf8, FitsSigned, nat_eq}
use Rattle.std.proofs.lemmas.List.{take_at, drop_at, length-append, append_cancel_right}
use Rattle.std.proofs.lemmas.Bool.{le-ltb, eqb-true}
use Rattle.std.proofs.lemmas.Int.{to_z-of_z}
use Rattle.std.proofs.lemmas.Nat.{from_le_bytes-to_le_bytes_2, from_le_bytes-to_le_bytes_4, from_le_bytes-to_le_bytes_8}
use Rattle.std.proofs.lemmas.Str.{is_utf8-from_IsUtf8}
use Rattle.std.proofs.Math.Facts.{Fits-of_z, Fits-lt-pow}
use Rattle.std.specs.List.{AllByRecursion}
use Rattle.std.specs.Str.{is_utf8}
use Rattle.std.specs.Int.{w64, to_le_bytes, from_le_bytes, cast_signed, cast_unsigned, byte_len}
use mir.Val.{bits}
use Rattle.bser_format.specs.Tree.{Tree, null, boolean, integer, real, bytes, text, array, object, template, Items, no_items, item, Entries, no_entries, entry, Rows, no_rows, row, Fields, no_fields, skip, field, items, entries, fields, rows, items_of, entries_of, fields_of, rows_of}
use Rattle.bser_format.specs.Grammar.{Format, Bytes, Given, Each, SpellsInteger, SpellsCount, SpellsString, SpellsKey, SpellsEntry, SpellsField, IsTemplate, Spells, IntSize, int8, int16, int32, int64, width_of, int_bytes, ◌then◌}
use Rattle.bser_format.specs.declared.errors.Error.TheVariants.{DeInvalidStartByte}
use Rattle.bser_format.specs.declared.errors.Kind.{Kind}
use Rattle.bser_format.specs.declared.errors.Kind.TheVariants.{NextItem, MapKey, TemplateKey}
use Rattle.bser_format.specs.declared.errors.Complaint.{Complaint}
use Rattle.bser_format.specs.declared.errors.Complaint.TheVariants.{NegativeLength, NegativeCount}
use Rattle.bser_format.specs.Named.{reads, refuses, Reader, give, refuse, and_then, ◌>>=◌, eof, utf8_wanted, next, front, many, number, int, natural, size, count, string, utf8, string_after, string_of, text_of, entry_of, field_of, array_body, object_body, rows_body, template_body, template_after, value_after, value, any, is_positive}
use Rattle.bser_format.proofs.Sifting.{same_answer}

-- ---- readers

-- r reads x off what F spells
abbrev pub Reads : {X : Type 0} → Reader X → Format → X → Type 0
Reads r F x = (b y : List ℕ) → F b → r (b ++ y) ≡ reads x y

pub reads_then : {X Y : Type 0} (r : Reader X) (k : X → Reader Y) (F G : Format) (x : X) (z : Y) → Reads r F x → Reads (k x) G z → Reads (r >>= k) (F then G) z
reads_then r k F G x z first second b y h =
    ap (λ c. (r >>= k) (c ++ y)) h.whole
    ∙ ap (λ c. (r >>= k) c) (append_assoc h.front h.rest y)
    ∙ ap (and_then k) (first h.front (h.rest ++ y) h.first)
    ∙ second h.rest y h.second

-- the last step reads no byte
pub reads_last : {X Y : Type 0} (r : Reader X) (k : X → Reader Y) (F : Format) (x : X) (z : Y) → Reads r F x → ((y : List ℕ) → k x y ≡ reads z y) → Reads (r >>= k) F z
reads_last r k F x z h last b y s = ap (and_then k) (h b y s) ∙ last y

pub next_reads : (t : ℕ) → Reads next (Bytes (t ∷ [])) t
next_reads t b y e = ap (λ c. next (c ++ y)) e

pub many_reads : {X : Type 0} (r : Reader X) (F : X → Format) (P : X → Type 0) → ((x : X) → P x → Reads r (F x) x)
    → (xs : List X) → AllByRecursion P xs → Reads (many r (length xs)) (Each F xs) xs
many_reads r F P one [] all b y e = ap (λ c. reads [] (c ++ y)) e
many_reads r F P one (x ∷ xs) all b y e =
    reads_then r (λ v. many r (length xs) >>= λ vs. give (v ∷ vs)) (F x) (Each F xs) x (x ∷ xs) (one x all.0)
    (reads_last (many r (length xs)) (λ vs. give (x ∷ vs)) (Each F xs) xs (x ∷ xs) (many_reads r F P one xs all.1) (λ w. refl)) b y e

-- ---- numbers and strings

pub front_reads : (n : ℕ) (s y : List ℕ) → length s ≡ n → front n (s ++ y) ≡ reads s y
front_reads n s y e =
    let fits : n ≤ length (s ++ y) = omega (arith, length-append s y) in
    rw (le-ltb (length (s ++ y)) n fits, take_at s y n e, drop_at s y n e) refl

pub length-le_bytes : (s : IntSize) (n : ℕ) → length (to_le_bytes (width_of s) n) ≡ byte_len (width_of s)
length-le_bytes int8 n = refl
length-le_bytes other n = refl

pub from_to_le_bytes : (s : IntSize) (n : ℕ) → n < 2 ^ bits (width_of s) → from_le_bytes (width_of s) (to_le_bytes (width_of s) n) ≡ n
from_to_le_bytes int8 n h = omega arith
from_to_le_bytes int16 n h = from_le_bytes-to_le_bytes_2 n h
from_to_le_bytes int32 n h = from_le_bytes-to_le_bytes_4 n h
from_to_le_bytes int64 n h = from_le_bytes-to_le_bytes_8 n h

pub number_reads : (s : IntSize) (v : ℤ) (y : List ℕ) → FitsSigned (width_of s) v → number s (to_le_bytes (width_of s) (cast_unsigned (width_of s) v) ++ y) ≡ reads v y
number_reads s v y h =
    let n : ℕ = cast_unsigned (width_of s) v in
    ap (and_then (λ c. give (cast_signed (width_of s) (from_le_bytes (width_of s) c)))) (front_reads _ (to_le_bytes (width_of s) n) y (length-le_bytes s n))
    ∙ ap (λ m. reads (cast_signed (width_of s) m) y) (from_to_le_bytes s n (Fits-lt-pow (Fits-of_z h)))
    ∙ ap (λ z. reads z y) (to_z-of_z (width_of s) v h)

pub int_size : (s : IntSize) (v : ℤ) (y : List ℕ) → FitsSigned (width_of s) v → int (int_bytes s v ++ y) ≡ reads v y
int_size int8 v y h = number_reads int8 v y h
int_size int16 v y h = number_reads int16 v y h
int_size int32 v y h = number_reads int32 v y h
int_size int64 v y h = number_reads int64 v y h

pub int_reads : (v : ℤ) → Reads int (SpellsInteger v) v
int_reads v b y h = ap (λ c. int (c ++ y)) h.spelled ∙ int_size h.size v y h.fits

-- a length or a count
pub counted_reads : (c : Complaint) (n : ℕ) → Reads (int >>= natural c) (SpellsCount n) n
counted_reads c n = reads_last int (natural c) (SpellsCount n) (pos n) n (int_reads (pos n)) (λ y. refl)

pub count_reads : (n : ℕ) → Reads count (SpellsCount n) n
count_reads n = counted_reads NegativeCount n

pub string_reads : (s : List ℕ) → Reads string (SpellsCount (length s) then Bytes s) s
string_reads s = reads_then size front (SpellsCount (length s)) (Bytes s) (length s) s (counted_reads NegativeLength (length s)) (λ b y e. ap (λ c. front (length s) (c ++ y)) e ∙ front_reads (length s) s y refl)

-- what is UTF-8 stays
pub kept : (s y : List ℕ) → is_utf8 s ≡ true → utf8 s y ≡ reads s y
kept s y e = ap (λ c. cond c (give s) (refuse utf8_wanted) y) e

pub utf8_reads : (s : List ℕ) → Reads (string >>= utf8) (SpellsCount (length s) then Given (IsUtf8 s) (Bytes s)) s
utf8_reads s b y h =
    reads_last string utf8 (SpellsCount (length s) then Bytes s) s s (string_reads s) (λ w. kept s w (is_utf8-from_IsUtf8 s h.second.0)) b y
    (record { front = h.front; rest = h.rest; whole = h.whole; first = h.first; second = h.second.1 })

pub string_of_reads : (kind : Kind) (s : List ℕ) → Reads (string_of kind) (SpellsString s) s
string_of_reads kind s b y (inl p) = reads_then next (λ tag. string_after (DeInvalidStartByte kind tag) tag) (Bytes (0x02 ∷ [])) (SpellsCount (length s) then Bytes s) 0x02 s (next_reads 0x02) (string_reads s) b y p
string_of_reads kind s b y (inr p) = reads_then next (λ tag. string_after (DeInvalidStartByte kind tag) tag) (Bytes (0x0d ∷ [])) (SpellsCount (length s) then Given (IsUtf8 s) (Bytes s)) 0x0d s (next_reads 0x0d) (utf8_reads s) b y p

pub key_reads : (s : List ℕ) → Reads (text_of TemplateKey) (SpellsKey s) s
key_reads s b y h = reads_last (string_of TemplateKey) utf8 (SpellsString s) s s (string_of_reads TemplateKey s) (λ w. kept s w (is_utf8-from_IsUtf8 s h.0)) b y h.1

-- ---- containers

pub items_back : (ts : Items) → items_of (items ts) ≡ ts
items_back no_items = refl
items_back (item t ts) = ap (item t) (items_back ts)

pub entries_back : (es : Entries) → entries_of (entries es) ≡ es
entries_back no_entries = refl
entries_back (entry k t es) = ap (entry k t) (entries_back es)

pub fields_back : (fs : Fields) → fields_of (fields fs) ≡ fs
fields_back no_fields = refl
fields_back (skip fs) = ap skip (fields_back fs)
fields_back (field t fs) = ap (field t) (fields_back fs)

pub rows_back : (rs : Rows) → rows_of (rows rs) ≡ rs
rows_back no_rows = refl
rows_back (row fs rs) = ap (λ x. row x (rows_of (rows rs))) (fields_back fs) ∙ ap (row fs) (rows_back rs)

-- of every member
pub everywhere : {X : Type 0} (xs : List X) → AllByRecursion (λ x. Unit {0}) xs
everywhere [] = tt
everywhere (x ∷ xs) = (tt, everywhere xs)

pub many_all : {X : Type 0} (r : Reader X) (F : X → Format) → ((x : X) → Reads r (F x) x) → (xs : List X) → Reads (many r (length xs)) (Each F xs) xs
many_all r F one xs = many_reads r F (λ x. Unit {0}) (λ x u. one x) xs (everywhere xs)

pub array_reads : (r : Reader Tree) (F : Tree → Format) → ((t : Tree) → Reads r (F t) t) → (ts : Items)
    → Reads (array_body r) (SpellsCount (length (items ts)) then Each F (items ts)) (array ts)
array_reads r F one ts =
    reads_then count (λ n. many r n >>= λ us. give (array (items_of us))) (SpellsCount (length (items ts))) (Each F (items ts)) _ (array ts) (count_reads _)
    (reads_last (many r (length (items ts))) (λ us. give (array (items_of us))) (Each F (items ts)) (items ts) (array ts) (many_all r F one (items ts))
    (λ y. ap (λ us. reads (array us) y) (items_back ts)))

pub entry_reads : (r : Reader Tree) (F : Tree → Format) → ((t : Tree) → Reads r (F t) t) → (e : List ℕ × Tree) → Reads (entry_of (string_of MapKey) r) (SpellsEntry F e) e
entry_reads r F one e =
    reads_then (string_of MapKey) (λ k. r >>= λ t. give (k, t)) (SpellsString e.0) (F e.1) e.0 e (string_of_reads MapKey e.0)
    (reads_last r (λ t. give (e.0, t)) (F e.1) e.1 e (one e.1) (λ y. refl))

pub object_reads : (r : Reader Tree) (F : Tree → Format) → ((t : Tree) → Reads r (F t) t) → (es : Entries)
    → Reads (object_body (string_of MapKey) r) (SpellsCount (length (entries es)) then Each (SpellsEntry F) (entries es)) (object es)
object_reads r F one es =
    reads_then count (λ n. many (entry_of (string_of MapKey) r) n >>= λ us. give (object (entries_of us))) (SpellsCount (length (entries es))) (Each (SpellsEntry F) (entries es)) _ (object es) (count_reads _)
    (reads_last (many (entry_of (string_of MapKey) r) (length (entries es))) (λ us. give (object (entries_of us))) (Each (SpellsEntry F) (entries es)) (entries es) (object es)
    (many_all (entry_of (string_of MapKey) r) (SpellsEntry F) (entry_reads r F one) (entries es)) (λ y. ap (λ us. reads (object us) y) (entries_back es)))

-- no value begins with a skip
no_skip : (n : ℕ) (y : List ℕ) → any n (0x0c ∷ y) ≡ refuses (DeInvalidStartByte NextItem 0x0c)
unfolding value
no_skip zero y = refl
no_skip (suc n) y = refl

no_bytes : (n : ℕ) → any n [] ≡ refuses eof
unfolding value
no_bytes zero = refl
no_bytes (suc n) = refl

-- a value where a field may stand
field_there : (n : ℕ) (l y : List ℕ) (t : Tree) → any n l ≡ reads t y → field_of (any n) l ≡ reads (Some t) y
field_there n [] y t e = absurd (let none : refuses eof ≡ reads t y = sym (no_bytes n) ∙ e in cc)
field_there n (x ∷ l) y t e = go (nat_eq x 0x0c) refl
  where
    go : (c : Bool) → nat_eq x 0x0c ≡ c → cond c (reads None l) ((any n >>= λ u. give (Some u)) (x ∷ l)) ≡ reads (Some t) y
    go true is = absurd (let none : refuses (DeInvalidStartByte NextItem 0x0c) ≡ reads t y = sym (no_skip n l) ∙ ap (λ z. any n (z ∷ l)) (sym (eqb-true x 0x0c is)) ∙ e in cc)
    go false is = ap (and_then (λ u. give (Some u))) e

-- all values are read so with n levels left
abbrev pub AllRead : ℕ → Type 0
AllRead n = (t : Tree) → Reads (any n) (Spells n t) t

field_of_reads : (n : ℕ) → AllRead n → (f : Option Tree) → Reads (field_of (any n)) (SpellsField (Spells n) f) f
field_of_reads n one None b y h = ap (λ c. field_of (any n) (c ++ y)) h
field_of_reads n one (Some t) b y h = field_there n (b ++ y) y t (one t b y h)

rows_reads : (n : ℕ) → AllRead n → (ks : List (List ℕ)) (rs : Rows) → IsTemplate ks (rows rs) → Reads (rows_body (any n) ks (length ks) (length (rows rs))) (Each (Each (SpellsField (Spells n))) (rows rs)) (template ks rs)
rows_reads n one [] no_rows e b y h = ap (λ c. reads (template [] no_rows) (c ++ y)) h
rows_reads n one [] (row f rs) e b y h = cc
rows_reads n one (k ∷ ks) rs each b y h =
    let F : Option Tree → Format = SpellsField (Spells n) in
    reads_last (many (many (field_of (any n)) (length (k ∷ ks))) (length (rows rs))) (λ us. give (template (k ∷ ks) (rows_of us))) (Each (Each F) (rows rs)) (rows rs) (template (k ∷ ks) rs)
    (many_reads (many (field_of (any n)) (length (k ∷ ks))) (Each F) (λ fs. length fs ≡ length (k ∷ ks))
    (λ fs e. subst (λ m. Reads (many (field_of (any n)) m) (Each F fs) fs) e (many_all (field_of (any n)) F (field_of_reads n one) fs)) (rows rs) each)
    (λ w. ap (λ us. reads (template (k ∷ ks) us) w) (rows_back rs)) b y h

table_reads : (n : ℕ) → AllRead n → (ks : List (List ℕ)) (rs : Rows) → IsTemplate ks (rows rs)
    → Reads (template_body (any n)) (SpellsCount (length ks) then Each SpellsKey ks then SpellsCount (length (rows rs)) then Each (Each (SpellsField (Spells n))) (rows rs)) (template ks rs)
table_reads n one ks rs each =
    let r : Reader Tree = any n in
    let R : Format = Each (Each (SpellsField (Spells n))) (rows rs) in
    reads_then count (λ k. many (text_of TemplateKey) k >>= λ us. count >>= λ m. rows_body r us k m) (SpellsCount (length ks)) (Each SpellsKey ks then SpellsCount (length (rows rs)) then R) (length ks) (template ks rs) (count_reads _)
    (reads_then (many (text_of TemplateKey) (length ks)) (λ us. count >>= λ m. rows_body r us (length ks) m) (Each SpellsKey ks) (SpellsCount (length (rows rs)) then R) ks (template ks rs) (many_all (text_of TemplateKey) SpellsKey key_reads ks)
    (reads_then count (λ m. rows_body r ks (length ks) m) (SpellsCount (length (rows rs))) R (length (rows rs)) (template ks rs) (count_reads _) (rows_reads n one ks rs each)))

-- ---- values

-- off a tag, however many levels are left
by_tags : (n : ℕ) (F : Format) (t : Tree) → ((deep deeper : Bool) (r : Reader Tree) → Reads (next >>= value_after deep deeper (string_of MapKey) r) F t) → Reads (any n) F t
unfolding value
by_tags zero F t h = h false false (refuse eof)
by_tags (suc n) F t h = h true (is_positive n) (any n)

module _ (deep deeper : Bool) (r : Reader Tree) where
  -- what follows a tag
  abbrev at : ℕ → Reader Tree
  at = value_after deep deeper (string_of MapKey) r

  int_leaf : (s : IntSize) (v : ℤ) (y : List ℕ) → FitsSigned (width_of s) v → (next >>= at) (int_bytes s v ++ y) ≡ reads (integer v) y
  int_leaf int8 v y h = ap (and_then (λ w. give (integer w))) (number_reads int8 v y h)
  int_leaf int16 v y h = ap (and_then (λ w. give (integer w))) (number_reads int16 v y h)
  int_leaf int32 v y h = ap (and_then (λ w. give (integer w))) (number_reads int32 v y h)
  int_leaf int64 v y h = ap (and_then (λ w. give (integer w))) (number_reads int64 v y h)

  leaf_reads : (t : Tree) → Reads (next >>= at) (Spells zero t) t
  leaf_reads null b y h = ap (λ c. (next >>= at) (c ++ y)) h
  leaf_reads (boolean true) b y h = ap (λ c. (next >>= at) (c ++ y)) h
  leaf_reads (boolean false) b y h = ap (λ c. (next >>= at) (c ++ y)) h
  leaf_reads (integer v) b y h = ap (λ c. (next >>= at) (c ++ y)) h.spelled ∙ int_leaf h.size v y h.fits
  leaf_reads (real m) b y h =
      ap (λ c. (next >>= at) (c ++ y)) h.1
      ∙ ap (and_then (λ c. give (real (from_le_bytes w64 c)))) (front_reads 8 (to_le_bytes w64 m) y refl)
      ∙ ap (λ k. reads (real k) y) (from_to_le_bytes int64 m h.0)
  leaf_reads (bytes s) b y h =
      reads_then next at (Bytes (0x02 ∷ [])) (SpellsCount (length s) then Bytes s) 0x02 (bytes s) (next_reads 0x02)
      (reads_last string (λ c. give (bytes c)) (SpellsCount (length s) then Bytes s) s (bytes s) (string_reads s) (λ w. refl)) b y h
  leaf_reads (text s) b y h =
      reads_then next at (Bytes (0x0d ∷ [])) (SpellsCount (length s) then Given (IsUtf8 s) (Bytes s)) 0x0d (text s) (next_reads 0x0d)
      (reads_last (string >>= utf8) (λ c. give (text c)) (SpellsCount (length s) then Given (IsUtf8 s) (Bytes s)) s (text s) (utf8_reads s) (λ w. refl)) b y h
  leaf_reads (array ts) b y h = absurd h
  leaf_reads other b y h = absurd h

-- a container is read by its tag
pub value_reads : (n : ℕ) → AllRead n
unfolding value
value_reads n null b y h = by_tags n _ _ (λ d e r. leaf_reads d e r null) b y h
value_reads n (boolean v) b y h = by_tags n _ _ (λ d e r. leaf_reads d e r (boolean v)) b y h
value_reads n (integer v) b y h = by_tags n _ _ (λ d e r. leaf_reads d e r (integer v)) b y h
value_reads n (real m) b y h = by_tags n _ _ (λ d e r. leaf_reads d e r (real m)) b y h
value_reads n (bytes s) b y h = by_tags n _ _ (λ d e r. leaf_reads d e r (bytes s)) b y h
value_reads n (text s) b y h = by_tags n _ _ (λ d e r. leaf_reads d e r (text s)) b y h
value_reads zero (array ts) b y h = absurd h
value_reads (suc n) (array ts) b y h = reads_then next (at true (is_positive n) (any n)) (Bytes (0x00 ∷ [])) _ 0x00 _ (next_reads 0x00) (array_reads (any n) (Spells n) (value_reads n) ts) b y h
value_reads (suc n) (object es) b y h = reads_then next (at true (is_positive n) (any n)) (Bytes (0x01 ∷ [])) _ 0x01 _ (next_reads 0x01) (object_reads (any n) (Spells n) (value_reads n) es) b y h
value_reads (suc zero) (template ks rs) b y h = absurd h
value_reads (suc (suc n)) (template ks rs) b y h =
    reads_then next (at true true (any (suc n))) (Bytes (0x0b ∷ [])) _ 0x0b _ (next_reads 0x0b)
    (reads_then next (template_after true (any (suc n))) (Bytes (0x00 ∷ [])) _ 0x00 _ (next_reads 0x00) (table_reads (suc n) (value_reads (suc n)) ks rs h.0)) b y h.1
value_reads zero other b y h = absurd h

pub field_reads : (n : ℕ) (f : Option Tree) → Reads (field_of (any n)) (SpellsField (Spells n) f) f
field_reads n = field_of_reads n (value_reads n)

-- ---- one front

pub one_value : (n : ℕ) (b c x y : List ℕ) (t u : Tree) → Spells n t b → Spells n u c → b ++ x ≡ c ++ y → (b ≡ c) × (t ≡ u)
one_value n b c x y t u p q e =
    let same = same_answer t u x y (sym (value_reads n t b x p) ∙ ap (any n) e ∙ value_reads n u c y q) in
    (append_cancel_right b c y (subst (λ r. b ++ r ≡ c ++ y) same.1 e), same.0)
