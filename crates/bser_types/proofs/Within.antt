-- A container that is read in steps: what was taken, and what is left to take.
use Rattle.std.proofs.Common.{◌≡◌, ℕ, List, ◌++◌, length, append_assoc, Option, Some, None, sym, ap, subst, ◌∙◌, inl, inr}
use Rattle.std.proofs.lemmas.List.{append_cancel_left, append_cancel_right}
use Rattle.bser_format.specs.Tree.{Tree, null, object, Fields, fields, fields_of}
use Rattle.bser_format.specs.Grammar.{Format, Each, Spells, SpellsString, SpellsField}
use Rattle.bser_format.specs.Expand.{expand, expand_fields, key_tree}
use Rattle.bser_format.specs.declared.errors.Kind.TheVariants.{MapKey}
use Rattle.bser_format.specs.Named.{Reader, string_of, field_of, many, any}
use Rattle.bser_format.specs.Content.{Content, Meaning}
use Rattle.bser_format.specs.Expected.{Due, Fills, nothing_due, node_due, key_due, field_due, name_due, row_due}
use Rattle.bser_format.proofs.Fronts.{Reads, value_reads, string_of_reads, field_reads, fields_back, many_all}
use Rattle.bser_format.proofs.Sifting.{same_answer}
use Rattle.bser_deserializer.specs.Reading.{FillsReadably}
use Rattle.bser_deserializer.specs.State.{State}

-- ---- parts of a whole

-- some bytes were taken: with what is left to take they make the whole, and a whole that begins with them goes on so
pub record Within {C : Type 0} (W V : C → Format) (taken : List ℕ) : Type 0 where
  pub whole : (c : C) (text : List ℕ) → V c text → W c (taken ++ text)
  pub only : (c : C) (text rest ys : List ℕ) → W c text → text ++ rest ≡ taken ++ ys → (more : List ℕ) × (text ≡ taken ++ more) × V c more

pub within_then : {C : Type 0} (W V U : C → Format) (xs ys : List ℕ) → Within W V xs → Within V U ys → Within W U (xs ++ ys)
within_then W V U xs ys first second = record {
  whole = λ c text h. subst (W c) (sym (append_assoc xs ys text)) (first.whole c (ys ++ text) (second.whole c text h));
  only = λ c text rest zs h e.
      let p = first.only c text rest (ys ++ zs) h (e ∙ append_assoc xs ys zs) in
      let left : p.0 ++ rest ≡ ys ++ zs = append_cancel_left xs _ _ (sym (append_assoc xs p.0 rest) ∙ sym (ap (λ l. l ++ rest) p.1) ∙ e ∙ append_assoc xs ys zs) in
      let q = second.only c p.0 rest zs p.2 left in
      (q.0, p.1 ∙ ap (λ l. xs ++ l) q.1 ∙ sym (append_assoc xs ys q.0), q.2);
}

-- what is due, where it reads as c
pub record DueAs (reads : Meaning) (s : State) (c : Content) (text : List ℕ) : Type 0 where
  pub tree : Tree
  pub filled : Fills s.levels s.due tree text
  pub read : reads tree ≡ Some c

pub due_as : (reads : Meaning) (s : State) (text : List ℕ) → (f : FillsReadably reads s text) → DueAs reads s f.content text
due_as reads s text f = record { tree = f.tree; filled = f.filled; read = f.read }

-- ---- one front

-- where what two formats spell is read by one reader, they spell the same
pub one_front : {X : Type 0} (r : Reader X) (F G : Format) (x z : X) → Reads r F x → Reads r G z → (a b s t : List ℕ) → F a → G b → a ++ s ≡ b ++ t → (a ≡ b) × (x ≡ z)
one_front r F G x z f g a b s t p q e =
    let same = same_answer x z s t (sym (f a s p) ∙ ap r e ∙ g b t q) in
    (append_cancel_right a b t (subst (λ l. a ++ l ≡ b ++ t) same.1 e), same.0)

one_field : (n : ℕ) (f g : Option Tree) (a b s t : List ℕ) → SpellsField (Spells n) f a → SpellsField (Spells n) g b → a ++ s ≡ b ++ t → (a ≡ b) × (f ≡ g)
one_field n f g = one_front (field_of (any n)) (SpellsField (Spells n) f) (SpellsField (Spells n) g) f g (field_reads n f) (field_reads n g)

-- what a field stands for
abbrev field_tree : Option Tree → Tree
field_tree None = null
field_tree (Some t) = expand t

field_due_as : (n : ℕ) (u : Tree) (b : List ℕ) → Fills n field_due u b → (f : Option Tree) × (u ≡ field_tree f) × SpellsField (Spells n) f b
field_due_as n u b (inl h) = (None, h.0, h.1)
field_due_as n u b (inr h) = (Some h.tree, h.stands, h.spelled)

row_reads : (n k : ℕ) (row : Fields) → length (fields row) ≡ k → Reads (many (field_of (any n)) k) (Each (SpellsField (Spells n)) (fields row)) (fields row)
row_reads n k row e = subst (λ m. Reads (many (field_of (any n)) m) (Each (SpellsField (Spells n)) (fields row)) (fields row)) e
    (many_all (field_of (any n)) (SpellsField (Spells n)) (field_reads n) (fields row))

same_row : (v w : Fields) → fields v ≡ fields w → v ≡ w
same_row v w e = sym (fields_back v) ∙ ap fields_of e ∙ fields_back w

-- two fronts that fill what is due are one, and stand for one tree
pub one_due : (n : ℕ) (d : Due) (t u : Tree) (a b x y : List ℕ) → Fills n d t a → Fills n d u b → a ++ x ≡ b ++ y → (a ≡ b) × (t ≡ u)
one_due n nothing_due t u a b x y p q e = absurd p
one_due n node_due t u a b x y p q e =
    let same = one_front (any n) (Spells n p.tree) (Spells n q.tree) p.tree q.tree (value_reads n p.tree) (value_reads n q.tree) a b x y p.spelled q.spelled e in
    (same.0, p.stands ∙ ap expand same.1 ∙ sym q.stands)
one_due n key_due t u a b x y p q e =
    let same = one_front (string_of MapKey) (SpellsString p.key) (SpellsString q.key) p.key q.key (string_of_reads MapKey p.key) (string_of_reads MapKey q.key) a b x y p.spelled q.spelled e in
    (same.0, p.stands ∙ ap key_tree same.1 ∙ sym q.stands)
one_due n field_due t u a b x y p q e =
    let v = field_due_as n t a p in
    let w = field_due_as n u b q in
    let same = one_field n v.0 w.0 a b x y v.2 w.2 e in
    (same.0, v.1 ∙ ap field_tree same.1 ∙ sym w.1)
one_due n (name_due k) t u a b x y p q e = (p.1 ∙ sym q.1, p.0 ∙ sym q.0)
one_due n (row_due ks) t u a b x y p q e =
    let same = one_front (many (field_of (any n)) (length ks)) (Each (SpellsField (Spells n)) (fields p.row)) (Each (SpellsField (Spells n)) (fields q.row)) (fields p.row) (fields q.row)
    (row_reads n (length ks) p.row p.even) (row_reads n (length ks) q.row q.even) a b x y p.spelled q.spelled e in
    (same.0, p.stands ∙ ap (λ r. object (expand_fields ks r)) (same_row p.row q.row same.1) ∙ sym q.stands)
