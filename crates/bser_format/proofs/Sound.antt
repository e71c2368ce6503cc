-- What reading gives is spelled at the front.
use Rattle.std.proofs.Common.{◌≡◌, inl, inr, ℕ, zero, suc, ◌^◌, ◌%◌, ◌<◌, ◌≤◌, ℤ, pos, negsuc, Bool, true, false, cond, List, [], ◌∷◌, ◌++◌, length, take, drop, get_or, Option, Some, None, refl, sym, ap, subst, ◌∙◌, append_assoc, append-nil, arith, IsUtf8, nat_lt, nat_eq}
use Rattle.std.proofs.lemmas.List.{take-append-drop, length-take-le}
use Rattle.std.proofs.lemmas.Bool.{ltb-false, eqb-true}
use Rattle.std.proofs.lemmas.Int.{of_z-to_z}
use Rattle.std.proofs.lemmas.Nat.{le_bytes_2, le_bytes_4, le_bytes_8}
use Rattle.std.proofs.lemmas.Str.{IsUtf8-from_is_utf8}
use Rattle.std.proofs.Math.Facts.{sfits_to_z, Fits-of_lt}
use Rattle.std.specs.List.{AllByRecursion}
use Rattle.std.specs.Str.{is_utf8}
use Rattle.std.specs.Int.{w64, to_le_bytes, from_le_bytes, cast_signed, byte_len}
use mir.Val.{bits}
use Rattle.bser_format.specs.Tree.{Tree, null, boolean, integer, real, bytes, text, array, object, template, Rows, items, entries, fields, rows, items_of, entries_of, fields_of, rows_of}
use Rattle.bser_format.specs.Grammar.{Format, Bytes, Given, Each, SpellsInteger, SpellsCount, SpellsString, SpellsKey, SpellsEntry, SpellsField, IsTemplate, Spells, IntSize, int8, int16, int32, int64, width_of, tag_of, ◌then◌}
use Rattle.bser_format.specs.declared.errors.Error.{Error}
use Rattle.bser_format.specs.declared.errors.Error.TheVariants.{DeInvalidStartByte}
use Rattle.bser_format.specs.declared.errors.Kind.{Kind}
use Rattle.bser_format.specs.declared.errors.Kind.TheVariants.{NextItem, Integer, MapKey, TemplateKeys, TemplateKey, Array, Object, Template}
use Rattle.bser_format.specs.declared.errors.Complaint.{Complaint}
use Rattle.bser_format.specs.declared.errors.Complaint.TheVariants.{NegativeLength, NegativeCount}
use Rattle.bser_format.specs.Named.{Answer, reads, refuses, Reader, give, refuse, ◌>>=◌, eof, utf8_wanted, next, front, many, number, int_after, int, natural, size, count, string, utf8, string_after, string_of, text_of, entry_of, field_of, array_body, object_body, rows_body, template_body, within, template_after, value_after, value, any, is_positive}
use Rattle.bser_format.proofs.Canon.{joined, tagged}
use Rattle.bser_format.proofs.Sifting.{then_reads, same_answer}

abbrev pub IsBytes : List ℕ → Type 0
IsBytes b = AllByRecursion (λ x. x < 256) b

-- b is of the form F up to y
pub record Front (F : Format) (b y : List ℕ) : Type 0 where
  pub part : List ℕ
  pub whole : b ≡ part ++ y
  pub form : F part
  pub rest : IsBytes y

-- one form after the other
pub then_front : {F G : Format} {b c y : List ℕ} → Front F b c → Front G c y → Front (F then G) b y
then_front {F} {G} {b} {c} {y} f g = record {
  part = f.part ++ g.part;
  whole = f.whole ∙ ap (λ d. f.part ++ d) g.whole ∙ sym (append_assoc f.part g.part y);
  form = joined F G f.part g.part f.form g.form;
  rest = g.rest;
}

-- of another form
pub as_front : {F G : Format} {b y : List ℕ} → Front F b y → ((c : List ℕ) → F c → G c) → Front G b y
as_front f form = record { part = f.part; whole = f.whole; form = form f.part f.form; rest = f.rest }

-- what r gives is spelled as P says
abbrev pub Sound : {X : Type 0} → Reader X → (X → Format) → Type 0
Sound {X = X} r P = (b y : List ℕ) (x : X) → IsBytes b → r b ≡ reads x y → Front (P x) b y

-- what is given is what was read
pub given_front : {X : Type 0} (R : X → Format) (x z : X) (b c y : List ℕ) → reads x c ≡ reads z y → Front (R x) b c → Front (R z) b y
given_front R x z b c y e f = let same = same_answer x z c y e in subst (λ w. Front (R z) b w) same.1 (subst (λ w. Front (R w) b c) same.0 f)

pub bind_sound : {X Y : Type 0} (r : Reader X) (k : X → Reader Y) (P : X → Format) (Q : X → Y → Format) (R : Y → Format)
    → Sound r P → ((x : X) → Sound (k x) (Q x)) → ((x : X) (z : Y) (b : List ℕ) → (P x then Q x z) b → R z b) → Sound (r >>= k) R
bind_sound r k P Q R first second form b y z all e = then_reads k (r b) z y e λ x c one more.
    let f = first b c x all one in
    as_front (then_front f (second x c y z f.rest more)) (form x z)

pub refuse_sound : {X : Type 0} (e : Error) (R : X → Format) → Sound (refuse {X = X} e) R
refuse_sound e R b y x all h = absurd cc

pub give_sound : {X : Type 0} (x : X) (R : X → Format) → R x [] → Sound (give x) R
give_sound x R h b y z all e = given_front R x z b b y e (record { part = []; whole = refl; form = h; rest = all })

-- the last step reads no byte
pub map_sound : {X Y : Type 0} (r : Reader X) (f : X → Y) (P : X → Format) (R : Y → Format) → Sound r P → ((x : X) (b : List ℕ) → P x b → R (f x) b) → Sound (r >>= λ x. give (f x)) R
map_sound r f P R first form b y z all e = then_reads (λ x. give (f x)) (r b) z y e λ x c one more.
    given_front R (f x) z b c y more (as_front (first b c x all one) (form x))

pub if_sound : {X : Type 0} (c : Bool) (r s : Reader X) (R : X → Format) → (c ≡ true → Sound r R) → (c ≡ false → Sound s R) → Sound (cond c r s) R
if_sound true r s R f g = f refl
if_sound false r s R f g = g refl

-- by a tag
pub tag_sound : {X : Type 0} (tag t : ℕ) (r s : Reader X) (R : ℕ → X → Format) → Sound r (R t) → Sound s (R tag) → Sound (cond (nat_eq tag t) r s) (R tag)
tag_sound {X = X} tag t r s R f g = if_sound (nat_eq tag t) r s (R tag) (λ e. subst (λ k. Sound r (R k)) (sym (eqb-true tag t e)) f) (λ e. g)

pub as_sound : {X : Type 0} (r : Reader X) (P R : X → Format) → Sound r P → ((x : X) (b : List ℕ) → P x b → R x b) → Sound r R
as_sound r P R h form b y x all e = as_front (h b y x all e) (form x)

pub next_sound : Sound next (λ t. Bytes (t ∷ []))
next_sound [] y t all e = absurd cc
next_sound (x ∷ b) y t all e =
    let same = same_answer x t b y e in
    record { part = t ∷ []; whole = ap (λ c. c ∷ b) same.0 ∙ ap (λ c. t ∷ c) same.1; form = refl; rest = subst IsBytes same.1 all.1 }

-- a tag, and what is read by it
pub by_tag : {X : Type 0} (k : ℕ → Reader X) (R : X → Format) → ((t : ℕ) → Sound (k t) (λ x b. R x (t ∷ b))) → Sound (next >>= k) R
by_tag k R h = bind_sound next k (λ t. Bytes (t ∷ [])) (λ t x b. R x (t ∷ b)) R next_sound h
    (λ t x b s. subst (R x) (sym (s.whole ∙ ap (λ c. c ++ s.rest) s.first)) s.second)

-- ---- numbers and strings

pub bytes_parts : (a c : List ℕ) → IsBytes (a ++ c) → IsBytes a × IsBytes c
bytes_parts [] c h = (tt, h)
bytes_parts (x ∷ a) c h = let more = bytes_parts a c h.1 in ((h.0, more.0), more.1)

pub byte_at : (b : List ℕ) → IsBytes b → (i : ℕ) → get_or b i 0 < 256
byte_at [] h i = omega arith
byte_at (x ∷ b) h zero = h.0
byte_at (x ∷ b) h (suc i) = byte_at b h.1 i

abbrev pub Exactly : ℕ → List ℕ → Format
Exactly n s b = (length s ≡ n) × (b ≡ s) × IsBytes s

long_enough : {A : Type 0} (c : Bool) (e : Error) (o : Answer A) (x : A) (y : List ℕ) → cond c (refuses e) o ≡ reads x y → (c ≡ false) × (o ≡ reads x y)
long_enough true e o x y h = absurd cc
long_enough false e o x y h = (refl, h)

pub front_sound : (n : ℕ) → Sound (front n) (Exactly n)
front_sound n b y s all e =
    let cut = long_enough (nat_lt (length b) n) eof (reads (take n b) (drop n b)) s y e in
    let long : n ≤ length b = ltb-false (length b) n cut.0 in
    let same = same_answer (take n b) s (drop n b) y cut.1 in
    let two = bytes_parts (take n b) (drop n b) (subst IsBytes (sym (take-append-drop n b)) all) in
    record {
      part = s;
      whole = sym (take-append-drop n b) ∙ ap (λ c. c ++ drop n b) same.0 ∙ ap (λ c. s ++ c) same.1;
      form = (ap length (sym same.0) ∙ length-take-le n b long, refl, subst IsBytes same.0 two.0);
      rest = subst IsBytes same.1 two.1;
    }

pub le_bytes_back : (s : IntSize) (b : List ℕ) → length b ≡ byte_len (width_of s) → ((i : ℕ) → get_or b i 0 < 256)
    → (from_le_bytes (width_of s) b < 2 ^ bits (width_of s)) × (to_le_bytes (width_of s) (from_le_bytes (width_of s) b) ≡ b)
le_bytes_back int8 [] l h = absurd (omega arith)
le_bytes_back int8 (x ∷ []) l h = let small : x < 256 = h 0 in let same : x % 256 ≡ x = omega arith in (small, ap (λ y. y ∷ []) same)
le_bytes_back int8 (x ∷ y ∷ b) l h = absurd (omega arith)
le_bytes_back int16 b l h = (omega (arith, h 0, h 1), le_bytes_2 b _ l h refl)
le_bytes_back int32 b l h = (omega (arith, h 0, h 1, h 2, h 3), le_bytes_4 b _ l h refl)
le_bytes_back int64 b l h = (omega (arith, h 0, h 1, h 2, h 3, h 4, h 5, h 6, h 7), le_bytes_8 b _ l h refl)

number_sound : (s : IntSize) → Sound (number s) (λ v b. SpellsInteger v (tag_of s ∷ b))
number_sound s = map_sound (front (byte_len (width_of s))) (λ b. cast_signed (width_of s) (from_le_bytes (width_of s) b)) (Exactly (byte_len (width_of s))) (λ v b. SpellsInteger v (tag_of s ∷ b))
    (front_sound _) λ c b h.
    let back = le_bytes_back s c h.0 (byte_at c h.2) in
    record {
      size = s;
      fits = sfits_to_z (Fits-of_lt back.0);
      spelled = ap (λ k. tag_of s ∷ k) (h.1 ∙ sym back.1 ∙ ap (to_le_bytes (width_of s)) (sym (of_z-to_z (width_of s) _ back.0)));
    }

int_after_sound : (e : Error) (tag : ℕ) → Sound (int_after e tag) (λ v b. SpellsInteger v (tag ∷ b))
int_after_sound e tag =
    let R : ℕ → ℤ → Format = λ t v b. SpellsInteger v (t ∷ b) in
    tag_sound tag 3 _ _ R (number_sound int8) (tag_sound tag 4 _ _ R (number_sound int16) (tag_sound tag 5 _ _ R (number_sound int32) (tag_sound tag 6 _ _ R (number_sound int64) (refuse_sound e (R tag)))))

pub int_sound : Sound int SpellsInteger
int_sound = by_tag (λ tag. int_after (DeInvalidStartByte Integer tag) tag) SpellsInteger (λ tag. int_after_sound (DeInvalidStartByte Integer tag) tag)

natural_sound : (c : Complaint) (v : ℤ) → Sound (natural c v) (λ n b. (b ≡ []) × (v ≡ pos n))
natural_sound c (pos n) = give_sound n _ (refl, refl)
natural_sound c (negsuc n) = refuse_sound _ _

-- nothing follows
pub only : (F G : Format) (b : List ℕ) (h : (F then G) b) → h.rest ≡ [] → F b
only F G b h e = subst F (sym (h.whole ∙ ap (λ c. h.front ++ c) e ∙ append-nil h.front)) h.first

-- a length or a count
pub counted_sound : (c : Complaint) → Sound (int >>= natural c) SpellsCount
counted_sound c = bind_sound int (natural c) SpellsInteger (λ v n b. (b ≡ []) × (v ≡ pos n)) SpellsCount int_sound (natural_sound c)
    (λ v n b h. subst (λ k. SpellsInteger k b) h.second.1 (only (SpellsInteger v) _ b h h.second.0))

pub string_sound : Sound string (λ s. SpellsCount (length s) then Bytes s)
string_sound b y s all e = then_reads front (size b) s y e λ n c one more.
    let f = counted_sound NegativeLength b c n all one in
    let g = front_sound n c y s f.rest more in
    then_front (as_front f (λ w. subst (λ k. SpellsCount k w) (sym g.form.0))) (as_front g (λ w h. h.1))

abbrev pub Checked : List ℕ → List ℕ → Format
Checked s u b = (b ≡ []) × (s ≡ u) × IsUtf8 s

check_sound : (s : List ℕ) → Sound (utf8 s) (Checked s)
check_sound s = if_sound (is_utf8 s) (give s) (refuse utf8_wanted) (Checked s) (λ e. give_sound s (Checked s) (refl, refl, IsUtf8-from_is_utf8 s e)) (λ e. refuse_sound utf8_wanted (Checked s))

abbrev pub Text : List ℕ → Format
Text s = SpellsCount (length s) then Given (IsUtf8 s) (Bytes s)

text_sound : Sound (string >>= utf8) Text
text_sound = bind_sound string utf8 (λ s. SpellsCount (length s) then Bytes s) Checked Text string_sound check_sound
    (λ s u b h. let k = only (SpellsCount (length s) then Bytes s) (Checked s u) b h h.second.0 in
    subst (λ v. Text v b) h.second.1 (record { front = k.front; rest = k.rest; whole = k.whole; first = k.first; second = (h.second.2, k.second) }))

string_of_sound : (kind : Kind) → Sound (string_of kind) SpellsString
string_of_sound kind = by_tag (λ tag. string_after (DeInvalidStartByte kind tag) tag) SpellsString λ tag.
    tag_sound tag 0x02 string _ (λ t s b. SpellsString s (t ∷ b)) (as_sound string (λ s. SpellsCount (length s) then Bytes s) _ string_sound (λ s b h. inl (tagged 0x02 _ b h)))
    (tag_sound tag 0x0d (string >>= utf8) _ (λ t s b. SpellsString s (t ∷ b)) (as_sound (string >>= utf8) Text _ text_sound (λ s b h. inr (tagged 0x0d _ b h))) (refuse_sound _ _))

key_sound : Sound (text_of TemplateKey) SpellsKey
key_sound = bind_sound (string_of TemplateKey) utf8 SpellsString Checked SpellsKey (string_of_sound TemplateKey) check_sound
    (λ s u b h. subst (λ v. SpellsKey v b) h.second.1 (h.second.2, only (SpellsString s) (Checked s u) b h h.second.0))

-- ---- containers

abbrev pub Many : {X : Type 0} → (X → Format) → ℕ → List X → Format
Many P n xs b = (length xs ≡ n) × Each P xs b

many_sound : {X : Type 0} (r : Reader X) (P : X → Format) → Sound r P → (n : ℕ) → Sound (many r n) (Many P n)
many_sound r P one zero b y zs all e = give_sound [] (Many P zero) (refl, refl) b y zs all e
many_sound r P one (suc n) b y zs all e =
    then_reads (λ x. many r n >>= λ xs. give (x ∷ xs)) (r b) zs y e λ x c first more.
    then_reads (λ xs. give (x ∷ xs)) (many r n c) zs y more λ xs d second last.
    let f = one b c x all first in
    let g = many_sound r P one n c d xs f.rest second in
    given_front (Many P (suc n)) (x ∷ xs) zs b d y last (as_front (then_front f (as_front g (λ w h. h.1))) (λ w h. (ap suc g.form.0, h)))

items_there : (ts : List Tree) → items (items_of ts) ≡ ts
items_there [] = refl
items_there (t ∷ ts) = ap (λ us. t ∷ us) (items_there ts)

entries_there : (es : List (List ℕ × Tree)) → entries (entries_of es) ≡ es
entries_there [] = refl
entries_there (e ∷ es) = ap (λ us. e ∷ us) (entries_there es)

fields_there : (fs : List (Option Tree)) → fields (fields_of fs) ≡ fs
fields_there [] = refl
fields_there (None ∷ fs) = ap (λ us. None ∷ us) (fields_there fs)
fields_there (Some t ∷ fs) = ap (λ us. Some t ∷ us) (fields_there fs)

rows_there : (rs : List (List (Option Tree))) → rows (rows_of rs) ≡ rs
rows_there [] = refl
rows_there (r ∷ rs) = ap (λ f. f ∷ rows (rows_of rs)) (fields_there r) ∙ ap (λ us. r ∷ us) (rows_there rs)

-- what follows a tag
abbrev pub After : ℕ → ℕ → Tree → Format
After n tag t b = Spells n t (tag ∷ b)

-- a count, and as many
counted_many : {X : Type 0} (r : Reader X) (P : X → Format) (f : List X → Tree) (R : Tree → Format) → Sound r P → ((xs : List X) (b : List ℕ) → (SpellsCount (length xs) then Each P xs) b → R (f xs) b)
    → Sound (count >>= λ n. many r n >>= λ xs. give (f xs)) R
counted_many r P f R one form b y t all e =
    then_reads (λ n. many r n >>= λ xs. give (f xs)) (count b) t y e λ n c first more.
    then_reads (λ xs. give (f xs)) (many r n c) t y more λ xs d second last.
    let a = counted_sound NegativeCount b c n all first in
    let g = many_sound r P one n c d xs a.rest second in
    given_front R (f xs) t b d y last (as_front (then_front (as_front a (λ w. subst (λ k. SpellsCount k w) (sym g.form.0))) (as_front g (λ w h. h.1))) (form xs))

array_sound : (n : ℕ) → Sound (any n) (Spells n) → Sound (array_body (any n)) (After (suc n) 0x00)
array_sound n one = counted_many (any n) (Spells n) (λ ts. array (items_of ts)) (After (suc n) 0x00) one
    (λ ts b h. tagged 0x00 _ b (subst (λ us. (SpellsCount (length us) then Each (Spells n) us) b) (sym (items_there ts)) h))

entry_sound : (r : Reader Tree) (F : Tree → Format) → Sound r F → Sound (entry_of (string_of MapKey) r) (SpellsEntry F)
entry_sound r F one = bind_sound (string_of MapKey) (λ k. r >>= λ t. give (k, t)) SpellsString (λ k e b. (k ≡ e.0) × F e.1 b) (SpellsEntry F) (string_of_sound MapKey)
    (λ k. map_sound r (λ t. (k, t)) F (λ e b. (k ≡ e.0) × F e.1 b) one (λ t b h. (refl, h)))
    (λ k e b h. record { front = h.front; rest = h.rest; whole = h.whole; first = subst (λ s. SpellsString s h.front) h.second.0 h.first; second = h.second.1 })

object_sound : (n : ℕ) → Sound (any n) (Spells n) → Sound (object_body (string_of MapKey) (any n)) (After (suc n) 0x01)
object_sound n one = counted_many (entry_of (string_of MapKey) (any n)) (SpellsEntry (Spells n)) (λ es. object (entries_of es)) (After (suc n) 0x01) (entry_sound (any n) (Spells n) one)
    (λ es b h. tagged 0x01 _ b (subst (λ us. (SpellsCount (length us) then Each (SpellsEntry (Spells n)) us) b) (sym (entries_there es)) h))

field_sound : (r : Reader Tree) (F : Tree → Format) → Sound r F → Sound (field_of r) (SpellsField F)
field_sound r F one [] y f all e = absurd cc
field_sound r F one (x ∷ b) y f all e = go (nat_eq x 0x0c) refl e
  where
    go : (c : Bool) → nat_eq x 0x0c ≡ c → cond c (reads None b) ((r >>= λ t. give (Some t)) (x ∷ b)) ≡ reads f y → Front (SpellsField F f) (x ∷ b) y
    go true is h =
        let same = same_answer None f b y h in
        record { part = x ∷ []; whole = ap (λ l. x ∷ l) same.1; form = subst (λ g. SpellsField F g (x ∷ [])) same.0 (ap (λ t. t ∷ []) (eqb-true x 0x0c is)); rest = subst IsBytes same.1 all.1 }
    go false is h = map_sound r (λ t. Some t) F (SpellsField F) one (λ t c k. k) (x ∷ b) y f all h

abbrev pub RowsBody : (Tree → Format) → List (List (Option Tree)) → Format
RowsBody F rs = Each (Each (SpellsField F)) rs

abbrev pub IsTableOf : (Tree → Format) → List (List ℕ) → ℕ → Tree → Format
IsTableOf F ks m t b = (rs : Rows) × (template ks rs ≡ t) × IsTemplate ks (rows rs) × (length (rows rs) ≡ m) × RowsBody F (rows rs) b

-- rows that were read so many fields at a time have so many
each_long : (F : Tree → Format) (n : ℕ) (rs : List (List (Option Tree))) (b : List ℕ) → Each (Many (SpellsField F) n) rs b → AllByRecursion (λ r. length r ≡ n) rs × RowsBody F rs b
each_long F n [] b h = (tt, h)
each_long F n (r ∷ rs) b h =
    let more = each_long F n rs h.rest h.second in
    ((h.first.0, more.0), record { front = h.front; rest = h.rest; whole = h.whole; first = h.first.1; second = more.1 })

table_rows : (ks : List (List ℕ)) (rs : List (List (Option Tree))) → (ks ≡ [] → rs ≡ []) → AllByRecursion (λ r. length r ≡ length ks) rs → IsTemplate ks rs
table_rows [] rs none each = none refl
table_rows (k ∷ ks) rs none each = each

no_rows_read : (rs : List (List (Option Tree))) → length rs ≡ 0 → rs ≡ []
no_rows_read [] e = refl
no_rows_read (r ∷ rs) e = absurd (omega arith)

rows_made : (r : Reader Tree) (F : Tree → Format) → Sound r F → (ks : List (List ℕ)) (m : ℕ) → ((rs : List (List (Option Tree))) → length rs ≡ m → ks ≡ [] → rs ≡ [])
    → Sound (many (many (field_of r) (length ks)) m >>= λ rs. give (template ks (rows_of rs))) (IsTableOf F ks m)
rows_made r F one ks m none = map_sound (many (many (field_of r) (length ks)) m) (λ rs. template ks (rows_of rs)) (Many (Many (SpellsField F) (length ks)) m) (IsTableOf F ks m)
    (many_sound (many (field_of r) (length ks)) (Many (SpellsField F) (length ks)) (many_sound (field_of r) (SpellsField F) (field_sound r F one) (length ks)) m)
    (λ rs b h. let long = each_long F (length ks) rs b h.1 in let back = sym (rows_there rs) in
    (rows_of rs, refl, subst (IsTemplate ks) back (table_rows ks rs (none rs h.0) long.0), ap length (rows_there rs) ∙ h.0, subst (λ us. RowsBody F us b) back long.1))

rows_sound : (r : Reader Tree) (F : Tree → Format) → Sound r F → (ks : List (List ℕ)) (m : ℕ) → Sound (rows_body r ks (length ks) m) (IsTableOf F ks m)
rows_sound r F one [] zero = rows_made r F one [] zero (λ rs e k. no_rows_read rs e)
rows_sound r F one [] (suc m) = refuse_sound _ _
rows_sound r F one (k ∷ ks) m = rows_made r F one (k ∷ ks) m (λ rs e same. cc)

table_sound : (n : ℕ) → Sound (any n) (Spells n) → Sound (within (is_positive n) Array (template_body (any n))) (λ t b. Spells (suc n) t (0x0b ∷ 0x00 ∷ b))
table_sound zero one b y t all e = absurd cc
table_sound (suc n) one b y t all e =
    then_reads _ (count b) t y e λ k c first more_keys.
    then_reads _ (many (text_of TemplateKey) k c) t y more_keys λ ks d second more_rows.
    then_reads _ (count d) t y more_rows λ m g third last.
    let f = counted_sound NegativeCount b c k all first in
    let keys = many_sound (text_of TemplateKey) SpellsKey key_sound k c d ks f.rest second in
    let q = counted_sound NegativeCount d g m keys.rest third in
    let body = rows_sound (any (suc n)) (Spells (suc n)) one ks m g y t q.rest (subst (λ j. rows_body (any (suc n)) ks j m g ≡ reads t y) (sym keys.form.0) last) in
    let table = body.form in
    let part = then_front (as_front f (λ w. subst (λ j. SpellsCount j w) (sym keys.form.0)))
    (then_front (as_front keys (λ w h. h.1))
    (then_front (as_front q (λ w. subst (λ j. SpellsCount j w) (sym table.3)))
    (record { part = body.part; whole = body.whole; form = table.4; rest = body.rest }))) in
    as_front part (λ w h. subst (λ u. Spells (suc (suc n)) u (0x0b ∷ 0x00 ∷ w)) table.1 (table.2, tagged 0x0b _ _ (tagged 0x00 _ w h)))

-- ---- values

template_sound : (n : ℕ) → Sound (any n) (Spells n) → Sound (next >>= template_after (is_positive n) (any n)) (After (suc n) 0x0b)
template_sound n one = by_tag (template_after (is_positive n) (any n)) (After (suc n) 0x0b) λ tag.
    tag_sound tag 0x00 (within (is_positive n) Array (template_body (any n))) _ (λ k t b. Spells (suc n) t (0x0b ∷ k ∷ b)) (table_sound n one) (refuse_sound (DeInvalidStartByte TemplateKeys tag) _)

after_sound : (n : ℕ) (deep deeper : Bool) (r : Reader Tree) → Sound (within deep Array (array_body r)) (After n 0x00) → Sound (within deep Object (object_body (string_of MapKey) r)) (After n 0x01)
    → Sound (within deep Template (next >>= template_after deeper r)) (After n 0x0b) → (tag : ℕ) → Sound (value_after deep deeper (string_of MapKey) r tag) (After n tag)
after_sound n deep deeper r arrays objects templates tag =
    tag_sound tag 0x0a (give null) _ (After n) (give_sound null (After n 0x0a) refl)
    (tag_sound tag 0x08 (give (boolean true)) _ (After n) (give_sound (boolean true) (After n 0x08) refl)
    (tag_sound tag 0x09 (give (boolean false)) _ (After n) (give_sound (boolean false) (After n 0x09) refl)
    (tag_sound tag 0x07 (front 8 >>= λ b. give (real (from_le_bytes w64 b))) _ (After n)
    (map_sound (front 8) (λ b. real (from_le_bytes w64 b)) (Exactly 8) (After n 0x07) (front_sound 8)
    (λ c b h. let back = le_bytes_back int64 c h.0 (byte_at c h.2) in (back.0, ap (λ k. 0x07 ∷ k) (h.1 ∙ sym back.1))))
    (tag_sound tag 0x02 (string >>= λ s. give (bytes s)) _ (After n) (map_sound string (λ s. bytes s) _ (After n 0x02) string_sound (λ s b h. tagged 0x02 _ b h))
    (tag_sound tag 0x0d (string >>= utf8 >>= λ s. give (text s)) _ (After n) (map_sound (string >>= utf8) (λ s. text s) Text (After n 0x0d) text_sound (λ s b h. tagged 0x0d _ b h))
    (tag_sound tag 0x00 (within deep Array (array_body r)) _ (After n) arrays
    (tag_sound tag 0x01 (within deep Object (object_body (string_of MapKey) r)) _ (After n) objects
    (tag_sound tag 0x0b (within deep Template (next >>= template_after deeper r)) _ (After n) templates
    (map_sound (int_after (DeInvalidStartByte NextItem tag) tag) (λ v. integer v) (λ v b. SpellsInteger v (tag ∷ b)) (After n tag) (int_after_sound (DeInvalidStartByte NextItem tag) tag) (λ v b h. h))))))))))

pub value_sound : (n : ℕ) → Sound (any n) (Spells n)
unfolding value
value_sound zero = by_tag (value_after false false (string_of MapKey) (refuse eof)) (Spells zero) (after_sound zero false false (refuse eof) (refuse_sound _ _) (refuse_sound _ _) (refuse_sound _ _))
value_sound (suc n) = by_tag (value_after true (is_positive n) (string_of MapKey) (any n)) (Spells (suc n))
    (after_sound (suc n) true (is_positive n) (any n) (array_sound n (value_sound n)) (object_sound n (value_sound n)) (template_sound n (value_sound n)))
