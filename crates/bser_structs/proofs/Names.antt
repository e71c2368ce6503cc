-- The names of variants: what reads them off the bytes left.
use Rattle.std.proofs.Common.{◌≡◌, ℕ, zero, suc, pos, Bool, true, false, cond, nat_eq, List, [], ◌∷◌, ◌++◌, Option, Some, None, option_and_then, bytes_eq, refl, sym, ap, subst, ◌∙◌, inl, inr, arith}
use Rattle.std.proofs.lemmas.Bool.{eqb-true}
use Rattle.std.proofs.lemmas.Str.{is_utf8-from_IsUtf8}
use Rattle.std.specs.Prelude.{if◌then◌else◌}
use Rattle.std.specs.Str.{is_utf8}
use Rattle.bser_format.specs.Tree.{Tree, null, boolean, integer, real, bytes, text, array, object, template}
use Rattle.bser_format.specs.Expand.{expand, key_tree}
use Rattle.bser_format.specs.Grammar.{Spells, SpellsCount, ◌then◌}
use Rattle.bser_format.specs.Content.{Content, number}
use Rattle.bser_format.specs.Expected.{Due, Fills, nothing_due, node_due, key_due, field_due, name_due, row_due, WantedPairs, entries_of_object, fields_of_row}
use Rattle.bser_format.specs.ReadsScalars.{utf8_of}
use Rattle.bser_format.specs.declared.errors.Complaint.TheVariants.{UnknownVariant, EnumObjectEntries}
use Rattle.bser_format.specs.declared.errors.Kind.TheVariants.{MapKey}
use Rattle.bser_format.specs.declared.errors.name.EnumName.{EnumName}
use Rattle.bser_format.specs.Named.{Answer, reads, refuses, give, and_then, complain, next, string, utf8, text_of}
use Rattle.bser_format.specs.DueReaders.{Seen, is_key_tag, value_tag, key_tag, asked, bytes_at, text_at, place_from, variant_of_row, variant_due}
use Rattle.bser_format.proofs.Heads.{count_passes}
use Rattle.bser_format.proofs.Steps.{Passes}
use Rattle.bser_format.proofs.Fronts.{kept}
use Rattle.bser_format.proofs.Strings.{looked}
use Rattle.bser_deserializer.specs.Dues.{IsValueDue}
use Rattle.bser_deserializer.specs.Fields.{field_from, field_of}
use Rattle.bser_deserializer.specs.Parts.{BeginsPairs, ObjectHead, pairs_left, pair_key}
use Rattle.bser_deserializer.specs.declared.field.Field.{Field}
use Rattle.bser_deserializer.specs.declared.field.Field.TheVariants.{Known, Unknown}
use Rattle.bser_deserializer.proofs.Containers.{tagged, unequal}
use Rattle.bser_deserializer.proofs.Tags.{key_tag_told}
use Rattle.bser_structs.specs.VariantNames.{place_due, only_place}
use Rattle.bser_structs.specs.ReadVariants.{known_place, reads_place}

-- ---- the place of a name

pub known_from : (i : ℕ) (vs : List (List ℕ)) (s : List ℕ) (p : ℕ) → field_from i vs s ≡ Known p → (y : List ℕ) → place_from i vs s y ≡ reads p y
known_from i [] s p e y = absurd cc
known_from i (v ∷ vs) s p e y = at (bytes_eq v s) e (known_from (suc i) vs s p)
  where
    at : (b : Bool) → (if b then Known i else field_from (suc i) vs s) ≡ Known p → (field_from (suc i) vs s ≡ Known p → (y : List ℕ) → place_from (suc i) vs s y ≡ reads p y)
        → cond b (give i) (place_from (suc i) vs s) y ≡ reads p y
    at true e later = let same : i ≡ p = cc in ap (λ j. reads j y) same
    at false e later = later e y

pub unknown_from : (i : ℕ) (vs : List (List ℕ)) (s : List ℕ) → field_from i vs s ≡ Unknown → (y : List ℕ) → place_from i vs s y ≡ refuses (complain UnknownVariant)
unknown_from i [] s e y = refl
unknown_from i (v ∷ vs) s e y = at (bytes_eq v s) e (unknown_from (suc i) vs s)
  where
    at : (b : Bool) → (if b then Known i else field_from (suc i) vs s) ≡ Unknown → (field_from (suc i) vs s ≡ Unknown → (y : List ℕ) → place_from (suc i) vs s y ≡ refuses (complain UnknownVariant))
        → cond b (give i) (place_from (suc i) vs s) y ≡ refuses (complain UnknownVariant)
    at true e later = absurd cc
    at false e later = later e y

-- a text that is one of the names
record Named (vs : List (List ℕ)) (u : Tree) (c : Content) : Type 0 where
  name : List ℕ
  place : ℕ
  text : utf8_of u ≡ Some name
  found : field_of vs name ≡ Known place
  held : c ≡ number (pos place)

named_tree : (vs : List (List ℕ)) (u : Tree) (c : Content) → reads_place vs u ≡ Some c → Named vs u c
named_tree vs u c e = of_text (utf8_of u) refl e
  where
    of_field : (s : List ℕ) → utf8_of u ≡ Some s → (f : Field) → field_of vs s ≡ f → known_place f ≡ Some c → Named vs u c
    of_field s t (Known p) h e = record { name = s; place = p; text = t; found = h; held = cc }
    of_field s t Unknown h e = absurd cc

    of_text : (o : Option (List ℕ)) → utf8_of u ≡ o → option_and_then (λ name. known_place (field_of vs name)) o ≡ Some c → Named vs u c
    of_text None t e = absurd cc
    of_text (Some s) t e = of_field s t (field_of vs s) refl e

-- ---- texts that are due

checked : (a : Answer Seen) (s y : List ℕ) → and_then bytes_at a ≡ reads s y → is_utf8 s ≡ true → and_then text_at a ≡ reads s y
checked (reads v w) s y e u = ap (and_then utf8) e ∙ kept s y u
checked (refuses f) s y e u = absurd cc

utf8_told : (v s : List ℕ) → cond (is_utf8 v) (Some v) None ≡ Some s → (v ≡ s) × (is_utf8 s ≡ true)
utf8_told v s = go (is_utf8 v) refl
  where
    go : (b : Bool) → is_utf8 v ≡ b → cond b (Some v) None ≡ Some s → (v ≡ s) × (is_utf8 s ≡ true)
    go true u e = let same : v ≡ s = cc in (same, rw (sym same) u)
    go false u e = absurd cc

key_told : (k s : List ℕ) → utf8_of (key_tree k) ≡ Some s → (k ≡ s) × (is_utf8 s ≡ true)
key_told k s = go (is_utf8 k) refl
  where
    go : (b : Bool) → is_utf8 k ≡ b → utf8_of (cond b (text k) (bytes k)) ≡ Some s → (k ≡ s) × (is_utf8 s ≡ true)
    go true u e = let same : k ≡ s = cc in (same, rw (sym same) u)
    go false u e = utf8_told k s e

node_text : (skips : Bool) (n : ℕ) (t : Tree) (s b x : List ℕ) → utf8_of (expand t) ≡ Some s → Spells n t b → and_then text_at (and_then (value_tag skips) (next (b ++ x))) ≡ reads s x
node_text skips n (bytes v) s b x e h =
    let k = utf8_told v s e in
    checked (and_then (value_tag skips) (next (b ++ x))) s x (looked (value_tag skips) (λ y. refl) (λ y. refl) v b x (inl h) ∙ ap (λ w. reads w x) k.0) k.1
node_text skips n (text v) s b x e h =
    let same : v ≡ s = cc in
    checked (and_then (value_tag skips) (next (b ++ x))) s x (looked (value_tag skips) (λ y. refl) (λ y. refl) v b x (inr h) ∙ ap (λ w. reads w x) same) (ap is_utf8 (sym same) ∙ is_utf8-from_IsUtf8 v h.second.second.0)
node_text skips n null s b x e h = absurd cc
node_text skips n (boolean v) s b x e h = absurd cc
node_text skips n (integer v) s b x e h = absurd cc
node_text skips n (real v) s b x e h = absurd cc
node_text skips n (array ts) s b x e h = absurd cc
node_text skips n (object es) s b x e h = absurd cc
node_text skips n (template ks rs) s b x e h = absurd cc

-- a text that fills what is due is read off
pub text_passes : (o n : ℕ) (d : Due) (u : Tree) (s b : List ℕ) → Fills n d u b → utf8_of u ≡ Some s → Passes (asked text_at o d) s b
text_passes o n nothing_due u s b f e x = absurd f
text_passes o n node_due u s b f e x = node_text false n f.tree s b x (ap utf8_of (sym f.stands) ∙ e) f.spelled
text_passes o n field_due u s b (inl f) e x = absurd (let none = ap utf8_of (sym f.0) ∙ e in cc)
text_passes o n field_due u s b (inr f) e x = node_text true n f.tree s b x (ap utf8_of (sym f.stands) ∙ e) f.spelled
text_passes o n key_due u s b f e x =
    let k = key_told f.key s (ap utf8_of (sym f.stands) ∙ e) in
    checked (and_then key_tag (next (b ++ x))) s x (looked key_tag (λ y. refl) (λ y. refl) f.key b x f.spelled ∙ ap (λ v. reads v x) k.0) k.1
text_passes o n (name_due k) u s b f e x =
    let q = key_told k s (ap utf8_of (sym f.0) ∙ e) in
    ap (λ l. utf8 k (l ++ x)) f.1 ∙ ap (λ v. utf8 v x) q.0 ∙ kept s x q.1
text_passes o n (row_due ks) u s b f e x = absurd (let none = ap utf8_of (sym f.stands) ∙ e in cc)

-- ---- a name that is due alone

-- a text that fills what is due is read off, and its place is left to tell
pub place_reads : (vs : List (List ℕ)) (o n : ℕ) (d : Due) (u : Tree) (s b x : List ℕ) → Fills n d u b → utf8_of u ≡ Some s → place_due o vs d (b ++ x) ≡ place_from 0 vs s x
place_reads vs o n nothing_due u s b x f e = absurd f
place_reads vs o n node_due u s b x f e = ap (and_then (place_from 0 vs)) (text_passes o n node_due u s b f e x)
place_reads vs o n key_due u s b x f e = ap (and_then (place_from 0 vs)) (text_passes o n key_due u s b f e x)
place_reads vs o n field_due u s b x f e = ap (and_then (place_from 0 vs)) (text_passes o n field_due u s b f e x)
place_reads vs o n (name_due k) u s b x f e =
    let same = (key_told k s (ap utf8_of (sym f.0) ∙ e)).0 in
    ap (λ l. place_from 0 vs k (l ++ x)) f.1 ∙ ap (λ l. place_from 0 vs l x) same
place_reads vs o n (row_due ks) u s b x f e = absurd (let none = ap utf8_of (sym f.stands) ∙ e in cc)

-- a name among these is read off, as its place
pub place_passes : (vs : List (List ℕ)) (o n : ℕ) (d : Due) (u : Tree) (c : Content) (b : List ℕ) → Fills n d u b → reads_place vs u ≡ Some c → (p : ℕ) × (c ≡ number (pos p)) × Passes (place_due o vs d) p b
place_passes vs o n d u c b f e =
    let q = named_tree vs u c e in
    (q.place, q.held, λ x. place_reads vs o n d u q.name b x f q.text ∙ known_from 0 vs q.name q.place q.found x)

-- ---- where an enum is due

-- UTF-8 is checked once
twice : (a : Answer (List ℕ)) → and_then utf8 (and_then utf8 a) ≡ and_then utf8 a
twice (refuses e) = refl
twice (reads s y) = go (is_utf8 s) refl
  where
    go : (b : Bool) → is_utf8 s ≡ b → and_then utf8 (utf8 s y) ≡ utf8 s y
    go true u = ap (and_then utf8) (kept s y u)
    go false u = rw u refl

-- a string's tag begins a name alone
pub alone_same : (enum : EnumName) (o n : ℕ) (vs : List (List ℕ)) (d : Due) (t : ℕ) (y : List ℕ) → IsValueDue d → is_key_tag t ≡ true → variant_due enum o n vs d (t ∷ y) ≡ place_due o vs d (t ∷ y)
alone_same enum o n vs d t y v is = elim (key_tag_told t is) [
  | inl e ↦ subst (λ z. variant_due enum o n vs d (z ∷ y) ≡ place_due o vs d (z ∷ y)) (sym e) (of_bytes d v)
  | inr e ↦ subst (λ z. variant_due enum o n vs d (z ∷ y) ≡ place_due o vs d (z ∷ y)) (sym e) (of_text d v)
]
  where
    of_bytes : (d : Due) → IsValueDue d → variant_due enum o n vs d (0x02 ∷ y) ≡ place_due o vs d (0x02 ∷ y)
    of_bytes nothing_due v = absurd v
    of_bytes node_due v = refl
    of_bytes key_due v = absurd v
    of_bytes field_due v = refl
    of_bytes (name_due k) v = absurd v
    of_bytes (row_due ks) v = absurd v

    of_text : (d : Due) → IsValueDue d → variant_due enum o n vs d (0x0d ∷ y) ≡ place_due o vs d (0x0d ∷ y)
    of_text nothing_due v = absurd v
    of_text node_due v = ap (and_then (place_from 0 vs)) (sym (twice (string y)))
    of_text key_due v = absurd v
    of_text field_due v = ap (and_then (place_from 0 vs)) (sym (twice (string y)))
    of_text (name_due k) v = absurd v
    of_text (row_due ks) v = absurd v

-- a key is read as text where one is due
pub key_same : (o : ℕ) (x : List ℕ) → text_of MapKey x ≡ asked text_at o key_due x
key_same o [] = refl
key_same o (t ∷ y) = go (nat_eq t 0x02) (nat_eq t 0x0d) refl refl
  where
    go : (a b : Bool) → nat_eq t 0x02 ≡ a → nat_eq t 0x0d ≡ b → text_of MapKey (t ∷ y) ≡ asked text_at o key_due (t ∷ y)
    go true b p q = subst (λ z. text_of MapKey (z ∷ y) ≡ asked text_at o key_due (z ∷ y)) (sym (eqb-true t 0x02 p)) refl
    go false true p q = subst (λ z. text_of MapKey (z ∷ y) ≡ asked text_at o key_due (z ∷ y)) (sym (eqb-true t 0x0d q)) refl
    go false false p q = rw (p, q) refl

-- the tag of a text or of bytes
string_first : (n : ℕ) (t : Tree) (s b : List ℕ) → utf8_of (expand t) ≡ Some s → Spells n t b → (tag : ℕ) × (rest : List ℕ) × (b ≡ tag ∷ rest) × (is_key_tag tag ≡ true)
string_first n (bytes v) s b e h = (0x02, h.rest, h.whole ∙ ap (λ l. l ++ h.rest) h.first, refl)
string_first n (text v) s b e h = (0x0d, h.rest, h.whole ∙ ap (λ l. l ++ h.rest) h.first, refl)
string_first n null s b e h = absurd cc
string_first n (boolean v) s b e h = absurd cc
string_first n (integer v) s b e h = absurd cc
string_first n (real v) s b e h = absurd cc
string_first n (array ts) s b e h = absurd cc
string_first n (object es) s b e h = absurd cc
string_first n (template ks rs) s b e h = absurd cc

-- a name alone begins with a string's tag, where a value is due
pub name_first : (vs : List (List ℕ)) (n : ℕ) (d : Due) (u : Tree) (c : Content) (b : List ℕ) → IsValueDue d → Fills n d u b → reads_place vs u ≡ Some c → (tag : ℕ) × (rest : List ℕ) × (b ≡ tag ∷ rest) × (is_key_tag tag ≡ true)
name_first vs n nothing_due u c b v f e = absurd v
name_first vs n node_due u c b v f e = let q = named_tree vs u c e in string_first n f.tree q.name b (ap utf8_of (sym f.stands) ∙ q.text) f.spelled
name_first vs n key_due u c b v f e = absurd v
name_first vs n field_due u c b v (inl f) e = absurd (let none = ap (reads_place vs) (sym f.0) ∙ e in cc)
name_first vs n field_due u c b v (inr f) e = let q = named_tree vs u c e in string_first n f.tree q.name b (ap utf8_of (sym f.stands) ∙ q.text) f.spelled
name_first vs n (name_due k) u c b v f e = absurd v
name_first vs n (row_due ks) u c b v f e = absurd v

node_same : (enum : EnumName) (o m n : ℕ) (vs : List (List ℕ)) (d : Due) (t : Tree) (s b x : List ℕ) → IsValueDue d → utf8_of (expand t) ≡ Some s → Spells n t b → variant_due enum o m vs d (b ++ x) ≡ place_due o vs d (b ++ x)
node_same enum o m n vs d t s b x v e h =
    let p = string_first n t s b e h in
    ap (λ l. variant_due enum o m vs d (l ++ x)) p.2 ∙ alone_same enum o m vs d p.0 (p.1 ++ x) v p.3 ∙ ap (λ l. place_due o vs d (l ++ x)) (sym p.2)

-- a text is read as a name alone
text_same : (enum : EnumName) (o m n : ℕ) (vs : List (List ℕ)) (d : Due) (u : Tree) (s b x : List ℕ) → Fills n d u b → utf8_of u ≡ Some s → variant_due enum o m vs d (b ++ x) ≡ place_due o vs d (b ++ x)
text_same enum o m n vs nothing_due u s b x f e = absurd f
text_same enum o m n vs node_due u s b x f e = node_same enum o m n vs node_due f.tree s b x tt (ap utf8_of (sym f.stands) ∙ e) f.spelled
text_same enum o m n vs field_due u s b x (inl f) e = absurd (let none = ap utf8_of (sym f.0) ∙ e in cc)
text_same enum o m n vs field_due u s b x (inr f) e = node_same enum o m n vs field_due f.tree s b x tt (ap utf8_of (sym f.stands) ∙ e) f.spelled
text_same enum o m n vs key_due u s b x f e = ap (and_then (place_from 0 vs)) (key_same o (b ++ x))
text_same enum o m n vs (name_due k) u s b x f e = refl
text_same enum o m n vs (row_due ks) u s b x f e = absurd (let none = ap utf8_of (sym f.stands) ∙ e in cc)

-- a name alone is read off
pub alone_passes : (enum : EnumName) (o m n : ℕ) (vs : List (List ℕ)) (d : Due) (u : Tree) (c : Content) (b : List ℕ) → Fills n d u b → reads_place vs u ≡ Some c → (p : ℕ) × (c ≡ number (pos p)) × Passes (variant_due enum o m vs d) p b
alone_passes enum o m n vs d u c b f e =
    let q = place_passes vs o n d u c b f e in
    let t = named_tree vs u c e in
    (q.0, q.1, λ x. text_same enum o m n vs d u t.name b x f t.text ∙ q.2 x)

-- ---- an entry

-- a row has no head of its own
pub row_passes : (n : ℕ) (vs ks : List (List ℕ)) (w : WantedPairs) (head x : List ℕ) → BeginsPairs n (row_due ks) w head → variant_of_row vs ks (head ++ x) ≡ only_place vs w x
row_passes n vs ks (fields_of_row ls) head x (same, none) = ap (λ l. variant_of_row vs ks (l ++ x)) none ∙ ap (λ us. variant_of_row vs us x) (sym same)
row_passes n vs ks (entries_of_object k) head x h = absurd h

object_passes : (enum : EnumName) (o n k : ℕ) (vs : List (List ℕ)) (d : Due) (head x : List ℕ) → IsValueDue d → ObjectHead n k head → variant_due enum o n vs d (head ++ x) ≡ only_place vs (entries_of_object k) x
object_passes enum o zero k vs d head x v h = absurd h
object_passes enum o (suc n) k vs d head x v h =
    let p = tagged 0x01 (SpellsCount k) head h in
    ap (λ l. variant_due enum o (suc n) vs d (l ++ x)) p.1 ∙ counted d v p.0 p.2
  where
    counted : (d : Due) → IsValueDue d → (rest : List ℕ) → SpellsCount k rest → variant_due enum o (suc n) vs d (0x01 ∷ (rest ++ x)) ≡ only_place vs (entries_of_object k) x
    counted nothing_due v rest c = absurd v
    counted node_due v rest c = ap (and_then (λ m. only_place vs (entries_of_object m))) (count_passes k rest c x)
    counted key_due v rest c = absurd v
    counted field_due v rest c = ap (and_then (λ m. only_place vs (entries_of_object m))) (count_passes k rest c x)
    counted (name_due l) v rest c = absurd v
    counted (row_due ks) v rest c = absurd v

-- after the head of an object or a row, the key of its only entry is left to read
pub head_passes : (enum : EnumName) (o n : ℕ) (vs : List (List ℕ)) (d : Due) (w : WantedPairs) (head x : List ℕ) → BeginsPairs n d w head → variant_due enum o n vs d (head ++ x) ≡ only_place vs w x
head_passes enum o n vs node_due (entries_of_object k) head x h = object_passes enum o n k vs node_due head x tt h
head_passes enum o n vs field_due (entries_of_object k) head x h = object_passes enum o n k vs field_due head x tt h
head_passes enum o n vs (row_due ks) w head x h = row_passes n vs ks w head x h
head_passes enum o n vs node_due (fields_of_row ls) head x h = absurd h
head_passes enum o n vs field_due (fields_of_row ls) head x h = absurd h
head_passes enum o n vs nothing_due w head x h = absurd h
head_passes enum o n vs key_due w head x h = absurd h
head_passes enum o n vs (name_due k) w head x h = absurd h

-- the key of an only entry is a name that is due alone
pub only_same : (o : ℕ) (vs : List (List ℕ)) (w : WantedPairs) (x : List ℕ) → pairs_left w ≡ 1 → only_place vs w x ≡ place_due o vs (pair_key w) x
only_same o vs (entries_of_object k) x e = ap (λ j. only_place vs (entries_of_object j) x) e ∙ ap (and_then (place_from 0 vs)) (key_same o x)
only_same o vs (fields_of_row []) x e = absurd (omega (arith, e))
only_same o vs (fields_of_row (k ∷ [])) x e = refl
only_same o vs (fields_of_row (k ∷ l ∷ ks)) x e = absurd (omega (arith, e))

-- no entry, or more than one
pub entries_refused : (vs : List (List ℕ)) (w : WantedPairs) (x : List ℕ) → (pairs_left w ≡ 1 → ⊥) → only_place vs w x ≡ refuses (complain EnumObjectEntries)
entries_refused vs (entries_of_object k) x other = rw (unequal k 1 other) refl
entries_refused vs (fields_of_row []) x other = refl
entries_refused vs (fields_of_row (k ∷ [])) x other = absurd (other refl)
entries_refused vs (fields_of_row (k ∷ l ∷ ks)) x other = refl

-- a head and a key of an only entry are read off
pub entry_passes : (enum : EnumName) (o i n : ℕ) (vs : List (List ℕ)) (d : Due) (w : WantedPairs) (u : Tree) (c : Content) (head key : List ℕ) → BeginsPairs n d w head → pairs_left w ≡ 1 → Fills i (pair_key w) u key → reads_place vs u ≡ Some c
    → (p : ℕ) × (c ≡ number (pos p)) × ((x : List ℕ) → variant_due enum o n vs d (head ++ (key ++ x)) ≡ reads p x)
entry_passes enum o i n vs d w u c head key h single f e =
    let q = place_passes vs o i (pair_key w) u c key f e in
    (q.0, q.1, λ x. head_passes enum o n vs d w head (key ++ x) h ∙ only_same o vs w (key ++ x) single ∙ q.2 x)
