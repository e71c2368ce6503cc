-- Structs, and the variants of enums, which a user's type writes part by part.
use Rattle.std.proofs.Common.{◌≡◌, ℕ, List, [], ◌∷◌, ◌++◌, length, Result, Ok, Err, append-nil, sym, ap, ◌∙◌, refl, subst}
use Rattle.bser_format.specs.Tree.{Tree}
use Rattle.bser_format.specs.Canonical.{canonical_body, canonical_key, least_integer}
use Rattle.bser_format.specs.Pieces.{array_head, object_head, newtype_variant_head, tuple_variant_head, struct_variant_head}
use Rattle.bser_format.specs.Written.{part_tree, plain_bytes, tuple_tree, struct_tree, variant_tree}
use Rattle.bser_format.specs.declared.errors.Error.{Error}
use Rattle.bser_ser.specs.Sent.{Sent, Refused, IsExcuse}
use Rattle.bser_ser.specs.Ends.{Ends, Stops, text_of, then}
use Rattle.bser_ser.specs.Stopped.{Tells}
use Rattle.bser_ser.specs.declared.serializer.Serializer.{Serializer}
use Rattle.bser_ser.proofs.Sends.{Joins}
use Rattle.bser_ser.proofs.Ends.{joined, then-assoc, Ends-both, Stops-second, Stops-none, UpTo, UpTo-start, UpTo-more, UpTo-all, UpTo-stops}
use Rattle.bser_ser.proofs.Texts.{item_text, entry_text, array_text, object_text}

one_entry_head : object_head 1 ≡ 0x01 ∷ 0x03 ∷ 0x01 ∷ []
unfolding least_integer
one_entry_head = refl

-- a variant's text is its head, and its payload's text
pub variant_text : (name : List ℕ) (m : Result Tree Error) → text_of (variant_tree name m) ≡ then (Ok (newtype_variant_head name)) (text_of m)
variant_text name (Err d) = refl
variant_text name (Ok t) = ap Ok (ap (λ (h : List ℕ). h ++ ((canonical_key name ++ canonical_body t) ++ [])) one_entry_head ∙ ap (λ (bs : List ℕ). 0x01 ∷ 0x03 ∷ 0x01 ∷ bs) (append-nil (canonical_key name ++ canonical_body t)))

-- the parts of a tuple variant, after its head
pub tuple_variant_text : (name : List ℕ) (parts : List (Result Tree Error)) → text_of (variant_tree name (tuple_tree parts)) ≡ then (Ok (tuple_variant_head name (length parts))) (joined (item_text part_tree) parts)
tuple_variant_text name parts =
    variant_text name (tuple_tree parts) ∙ ap (then (Ok (newtype_variant_head name))) (array_text part_tree parts)
    ∙ sym (then-assoc (Ok (newtype_variant_head name)) (Ok (array_head (length parts))) (joined (item_text part_tree) parts))

-- the fields of a struct variant, after its head
pub struct_variant_text : (name : List ℕ) (fields : List (List ℕ × Result Tree Error)) → text_of (variant_tree name (struct_tree fields)) ≡ then (Ok (struct_variant_head name (length fields))) (joined (entry_text plain_bytes part_tree) fields)
struct_variant_text name fields =
    variant_text name (struct_tree fields) ∙ ap (then (Ok (newtype_variant_head name))) (object_text plain_bytes part_tree fields)
    ∙ sym (then-assoc (Ok (newtype_variant_head name)) (Ok (object_head (length fields))) (joined (entry_text plain_bytes part_tree) fields))

-- the fields of a struct, after its head
pub struct_text : (fields : List (List ℕ × Result Tree Error)) → text_of (struct_tree fields) ≡ then (Ok (object_head (length fields))) (joined (entry_text plain_bytes part_tree) fields)
struct_text fields = object_text plain_bytes part_tree fields

-- A value of which the text is a head and its parts, written part by part.
module _ {S A : Type 0} (sink : Tells S) (both : Joins sink)
    (head : List ℕ) (part : A → Result (List ℕ) Error) (parts : List A) (m : Result Tree Error) (whole : text_of m ≡ then (Ok head) (joined part parts)) where
  pub walk_start : (a b : Serializer S) → Sent sink a b head → UpTo sink head part parts parts a b
  walk_start a b s = UpTo-start sink head part parts parts a b refl s

  pub walk_more : {x : A} {rest : List A} {a b : Serializer S} (c : Serializer S) → UpTo sink head part parts (x ∷ rest) a b → Ends sink (part x) b c → UpTo sink head part parts rest a c
  walk_more {x = x} {rest = rest} {a = a} {b = b} c u t = UpTo-more sink both head part parts (x ∷ rest) rest x a b c u refl t

  pub walk_all : {a b : Serializer S} → UpTo sink head part parts [] a b → Ends sink (text_of m) a b
  walk_all {a = a} {b = b} u = subst (λ (t : Result (List ℕ) Error). Ends sink t a b) (sym whole) (UpTo-all sink head part parts [] a b u refl)

module _ {S A : Type 0} (sink : Tells S) (both : Joins sink)
    (head : List ℕ) (part : A → Result (List ℕ) Error) (parts : List A) (m : Result Tree Error) (whole : text_of m ≡ then (Ok head) (joined part parts)) where
  pub walk_stop : {x : A} {rest : List A} {a b : Serializer S} (c : Serializer S) (e : Error) → UpTo sink head part parts (x ∷ rest) a b → Stops sink (part x) b c e → Stops sink (text_of m) a c e
  walk_stop {x = x} {rest = rest} {a = a} {b = b} c e u t = subst (λ (n : Result (List ℕ) Error). Stops sink n a c e) (sym whole) (UpTo-stops sink both head part parts (x ∷ rest) rest x a b c e u refl t)

-- A field: its key, and then its value.
module _ {S : Type 0} (sink : Tells S) (both : Joins sink) (key : List ℕ) (m : Result Tree Error) where
  pub field_ends : (a b c : Serializer S) → Sent sink a b (canonical_key key) → Ends sink (text_of m) b c → Ends sink (entry_text plain_bytes part_tree (key, m)) a c
  field_ends a b c s t = Ends-both sink both (Ok (canonical_key key)) (text_of m) a b c s t

module _ {S : Type 0} (sink : Tells S) (both : Joins sink) (key : List ℕ) (m : Result Tree Error) where
  pub field_stops_at_key : (a b : Serializer S) (e : Error) → Refused sink a b [] e → IsExcuse e → Stops sink (entry_text plain_bytes part_tree (key, m)) a b e
  field_stops_at_key a b e s x = Stops-none sink (entry_text plain_bytes part_tree (key, m)) a b e s x

  pub field_stops : (a b c : Serializer S) (e : Error) → Sent sink a b (canonical_key key) → Stops sink (text_of m) b c e → Stops sink (entry_text plain_bytes part_tree (key, m)) a c e
  field_stops a b c e s t = Stops-second sink both (Ok (canonical_key key)) (text_of m) a b c e s t

-- A variant's head, and then its payload.
module _ {S : Type 0} (sink : Tells S) (both : Joins sink) (name : List ℕ) (m : Result Tree Error) where
  pub payload_ends : (a b c : Serializer S) → Sent sink a b (newtype_variant_head name) → Ends sink (text_of m) b c → Ends sink (text_of (variant_tree name m)) a c
  payload_ends a b c s t = subst (λ (n : Result (List ℕ) Error). Ends sink n a c) (sym (variant_text name m)) (Ends-both sink both (Ok (newtype_variant_head name)) (text_of m) a b c s t)

module _ {S : Type 0} (sink : Tells S) (both : Joins sink) (name : List ℕ) (m : Result Tree Error) where
  pub payload_stops : (a b c : Serializer S) (e : Error) → Sent sink a b (newtype_variant_head name) → Stops sink (text_of m) b c e → Stops sink (text_of (variant_tree name m)) a c e
  payload_stops a b c e s t = subst (λ (n : Result (List ℕ) Error). Stops sink n a c e) (sym (variant_text name m)) (Stops-second sink both (Ok (newtype_variant_head name)) (text_of m) a b c e s t)
