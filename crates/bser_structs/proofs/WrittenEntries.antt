-- The entries of an object, written one after another.
use Rattle.std.proofs.Common.{◌≡◌, ℕ, ◌<◌, ◌^◌, List, [], ◌∷◌, ◌++◌, length, Result, Ok, sym, ap, ◌∙◌, refl, subst, arith, inl, inr}
use Rattle.bser_format.specs.Tree.{Tree}
use Rattle.bser_format.specs.Canonical.{canonical_key}
use Rattle.bser_format.specs.Pieces.{object_head}
use Rattle.bser_format.specs.Written.{part_tree, plain_bytes, struct_tree}
use Rattle.bser_format.specs.declared.errors.Error.{Error}
use Rattle.bser_ser.specs.Sent.{Sent}
use Rattle.bser_ser.specs.Ends.{Ends, Stops, text_of, then, field_text, CanBeWritten}
use Rattle.bser_ser.specs.Stopped.{Tells}
use Rattle.bser_ser.specs.declared.serializer.Serializer.{Serializer}
use Rattle.bser_ser.proofs.Sends.{Joins}
use Rattle.bser_ser.proofs.Ends.{joined, then-assoc, then-nil, nil-then, Ends-both, Stops-first, Stops-second}
use Rattle.bser_ser.proofs.Structs.{struct_text, field_ends, field_stops}
use Rattle.bser_ser.proofs.Texts.{entry_text}
use Rattle.bser_ser.proofs.Writable.{within_writable, object_writable}
use Rattle.bser_structs.specs.Entries.{entries_text, entries_tree, EntriesCanBeWritten, IsCount}

entries_joined : (fs : List (List ℕ × Result Tree Error)) → joined (entry_text plain_bytes part_tree) fs ≡ entries_text fs
entries_joined [] = refl
entries_joined (f ∷ fs) = ap (then (field_text f.0 f.1)) (entries_joined fs)

entries_append : (xs ys : List (List ℕ × Result Tree Error)) → entries_text (xs ++ ys) ≡ then (entries_text xs) (entries_text ys)
entries_append [] ys = sym (nil-then (entries_text ys))
entries_append (f ∷ xs) ys = ap (then (field_text f.0 f.1)) (entries_append xs ys) ∙ sym (then-assoc (field_text f.0 f.1) (entries_text xs) (entries_text ys))

tree_within : (fs : List (List ℕ × Result Tree Error)) → length fs < 2 ^ 63 → entries_tree fs ≡ struct_tree fs
tree_within fs h = grind (arith, h)

is_count : (n count : ℕ) → IsCount n count → count < 2 ^ 63 → count ≡ n
is_count n count (inl e) h = e
is_count n count (inr x) h = absurd (omega (arith, x.0, h))

-- a struct's text is its head, and its fields'
tree_text : (fs : List (List ℕ × Result Tree Error)) (count : ℕ) → count ≡ length fs → count < 2 ^ 63 → text_of (entries_tree fs) ≡ then (Ok (object_head count)) (entries_text fs)
tree_text fs count e h = rw (e) (ap text_of (tree_within fs (subst (λ (n : ℕ). n < 2 ^ 63) e h)) ∙ (struct_text fs ∙ ap (then (Ok (object_head (length fs)))) (entries_joined fs)))

module _ {S : Type 0} (sink : Tells S) (both : Joins sink) where
  -- one field
  pub one_ends : (key : List ℕ) (m : Result Tree Error) (a b c : Serializer S) → Sent sink a b (canonical_key key) → Ends sink (text_of m) b c → Ends sink (entries_text ((key, m) ∷ [])) a c
  one_ends key m a b c s t = subst (λ (n : Result (List ℕ) Error). Ends sink n a c) (sym (then-nil (field_text key m))) (field_ends sink both key m a b c s t)

  -- a field, and the others
  pub each_ends : (xs ys : List (List ℕ × Result Tree Error)) (a b c : Serializer S) → Ends sink (entries_text xs) a b → Ends sink (entries_text ys) b c → Ends sink (entries_text (xs ++ ys)) a c
  each_ends xs ys a b c s t = subst (λ (n : Result (List ℕ) Error). Ends sink n a c) (sym (entries_append xs ys)) (Ends-both sink both (entries_text xs) (entries_text ys) a b c s t)

  -- the head, and the fields
  pub tree_ends : (fs : List (List ℕ × Result Tree Error)) (count : ℕ) → IsCount (length fs) count → count < 2 ^ 63 → (a b c : Serializer S) → Sent sink a b (object_head count) → Ends sink (entries_text fs) b c → Ends sink (text_of (entries_tree fs)) a c
  tree_ends fs count n h a b c s t = subst (λ (m : Result (List ℕ) Error). Ends sink m a c) (sym (tree_text fs count (is_count (length fs) count n h) h)) (Ends-both sink both (Ok (object_head count)) (entries_text fs) a b c s t)

module _ {S : Type 0} (sink : Tells S) (both : Joins sink) where
  pub one_stops : (key : List ℕ) (m : Result Tree Error) (a b c : Serializer S) (e : Error) → Sent sink a b (canonical_key key) → Stops sink (text_of m) b c e → Stops sink (entries_text ((key, m) ∷ [])) a c e
  one_stops key m a b c e s t = subst (λ (n : Result (List ℕ) Error). Stops sink n a c e) (sym (then-nil (field_text key m))) (field_stops sink both key m a b c e s t)

  pub first_stops : (xs ys : List (List ℕ × Result Tree Error)) (a b : Serializer S) (e : Error) → Stops sink (entries_text xs) a b e → Stops sink (entries_text (xs ++ ys)) a b e
  first_stops xs ys a b e s = subst (λ (n : Result (List ℕ) Error). Stops sink n a b e) (sym (entries_append xs ys)) (Stops-first sink (entries_text xs) (entries_text ys) a b e s)

  pub others_stop : (xs ys : List (List ℕ × Result Tree Error)) (a b c : Serializer S) (e : Error) → Ends sink (entries_text xs) a b → Stops sink (entries_text ys) b c e → Stops sink (entries_text (xs ++ ys)) a c e
  others_stop xs ys a b c e s t = subst (λ (n : Result (List ℕ) Error). Stops sink n a c e) (sym (entries_append xs ys)) (Stops-second sink both (entries_text xs) (entries_text ys) a b c e s t)

  pub tree_stops : (fs : List (List ℕ × Result Tree Error)) (count : ℕ) → IsCount (length fs) count → count < 2 ^ 63 → (a b c : Serializer S) (e : Error) → Sent sink a b (object_head count) → Stops sink (entries_text fs) b c e → Stops sink (text_of (entries_tree fs)) a c e
  tree_stops fs count n h a b c e s t = subst (λ (m : Result (List ℕ) Error). Stops sink m a c e) (sym (tree_text fs count (is_count (length fs) count n h) h)) (Stops-second sink both (Ok (object_head count)) (entries_text fs) a b c e s t)

-- a field, and the others
pub each_writable : (xs ys : List (List ℕ × Result Tree Error)) → EntriesCanBeWritten xs → EntriesCanBeWritten ys → EntriesCanBeWritten (xs ++ ys)
each_writable [] ys p q = q
each_writable (e ∷ xs) ys p q = (p.0, each_writable xs ys p.1 q)

pub tree_writable : (fs : List (List ℕ × Result Tree Error)) → EntriesCanBeWritten fs → CanBeWritten (entries_tree fs)
tree_writable fs h = within_writable (length fs) (struct_tree fs) (λ few. object_writable plain_bytes part_tree fs few h)
