-- One entry of a struct after another, and the end.
use Rattle.std.proofs.Common.{◌≡◌, ℕ, zero, suc, ◌+◌, ◌-◌, ◌<◌, ◌≤◌, Bool, true, false, List, [], ◌∷◌, length, drop, Option, Some, None, option_map, refl, sym, ap, subst, ◌∙◌, arith}
use Rattle.std.specs.Prelude.{Result, Ok, Err, IfOk, OnOk, OnErr}
use Rattle.bser_format.specs.Content.{Content, each_some}
use Rattle.bser_format.specs.ReadsScalars.{reads_string}
use Rattle.bser_format.specs.ReadsHolders.{list_of}
use Rattle.bser_format.specs.Expected.{Due, WantedPairs, node_due, key_due, field_due, entries_of_object}
use Rattle.bser_format.specs.declared.errors.Error.{Error}
use Rattle.bser_format.specs.declared.errors.Complaint.TheVariants.{TooFewItems}
use Rattle.bser_format.specs.Named.{complain}
use Rattle.bser_format.specs.Clauses.{after_a_refusal}
use Rattle.bser_deserializer.specs.Access.{OpenPairs, IsKey, after_closing, pairs_in}
use Rattle.bser_deserializer.specs.Askings.{asking_string}
use Rattle.bser_deserializer.specs.Fields.{HoldsField}
use Rattle.bser_deserializer.specs.HoldsLists.{HoldsTuple}
use Rattle.bser_deserializer.specs.Parts.{wanted_pairs, pairs_left, pair_key, pair_value, pairs_after}
use Rattle.bser_deserializer.specs.Reading.{Answers, Refuses, bare, Needs}
use Rattle.bser_deserializer.specs.State.{State, awaiting, past, refused}
use Rattle.bser_deserializer.specs.declared.field.Field.{Field}
use Rattle.bser_deserializer.specs.declared.frames.MapHead.{MapHead}
use Rattle.bser_deserializer.specs.View.{pairs_head}
use Rattle.bser_types.specs.Slots.{StructField, fill_field, field_at_end, reads_struct, FinishesEach}
use Rattle.bser_types.proofs.Pairs.{field_key, entry_key, field_value, entry_value, field_passed, entry_passed}
use Rattle.bser_structs.specs.Asked.{place_known}
use Rattle.bser_structs.specs.Askings.{AllAsked, asking_fields}
use Rattle.bser_structs.specs.FieldCalls.{MakesStep, RefusesStep, NamesFields, NamesKey}
use Rattle.bser_structs.proofs.Structs.{AtField, AtFieldValue, after_key, row_key, struct_field, struct_step, struct_end, name_refused, step_refused, field_absent}

-- ---- answers

pub both_ok : {A E : Type 0} (P R : A → Type 0) (Q : Type 0) (r : Result A E) → ((v : A) → P v → Q → R v) → IfOk r P → OnOk r Q → IfOk r R
both_ok P R Q (Ok v) f p q = f v p q
both_ok P R Q (Err e) f p q = tt

pub both_err : {A E : Type 0} (P Q R : Type 0) (r : Result A E) → (P → Q → R) → OnErr r P → OnErr r Q → OnErr r R
both_err P Q R (Ok v) f p q = tt
both_err P Q R (Err e) f p q = f p q

-- ---- what is left

none_after : (ks : List (List ℕ)) (at : ℕ) → length ks ≤ at → length (drop at ks) ≡ 0
none_after [] zero h = refl
none_after [] (suc at) h = refl
none_after (k ∷ ks) zero h = absurd (omega (arith, h))
none_after (k ∷ ks) (suc at) h = none_after ks at (omega (arith, h))

-- no field of a row is left
pub row_over : (ks : List (List ℕ)) (row : Bool) (at : ℕ) → row ≡ true → length ks ≤ at → pairs_left (wanted_pairs ks row at) ≡ 0
row_over ks true at r h = none_after ks at h
row_over ks false at r h = absurd cc

-- no entry of an object is left
pub object_over : (ks : List (List ℕ)) (row : Bool) (at : ℕ) → row ≡ false → at ≡ 0 → pairs_left (wanted_pairs ks row at) ≡ 0
object_over ks true at r h = absurd cc
object_over ks false at r h = h

some_left : (ks : List (List ℕ)) (row : Bool) (at : ℕ) → row ≡ false → 0 < at → 0 < pairs_left (wanted_pairs ks row at)
some_left ks true at r h = absurd cc
some_left ks false at r h = h

wanted_entries : (ks : List (List ℕ)) (row : Bool) (at : ℕ) → row ≡ false → wanted_pairs ks row at ≡ entries_of_object at
wanted_entries ks true at r = absurd cc
wanted_entries ks false at r = refl

module _ (names : List (List ℕ)) (start : List StructField) (tells : Option (AllAsked start)) where
  -- ---- any entry

  -- the value of a key that was read leads on
  value_taken : (o z : State) (ss : List StructField) (f : Field) (t : OpenPairs) (d : Due) (w : WantedPairs) (keeps : List StructField → Type 0) → AtFieldValue names start tells o ss f t → pair_value t.wanted ≡ d → t.wanted ≡ w
      → (m : MakesStep (λ b. fill_field b f) keeps ss (awaiting d t.state) z) → AtField names start tells o m.next (pairs_in t z w false)
  value_taken o z ss f t d w keeps h due wanted =
      subst (λ v. (m : MakesStep (λ b. fill_field b f) keeps ss (awaiting d t.state) z) → AtField names start tells o m.next (pairs_in t z v false)) wanted
      (subst (λ q. (m : MakesStep (λ b. fill_field b f) keeps ss (awaiting q t.state) z) → AtField names start tells o m.next (pairs_in t z t.wanted false)) due
      (struct_step names start tells o z ss f t keeps h))

  value_refused : (needs : Needs) (e : Error) (o z : State) (ss : List StructField) (f : Field) (t : OpenPairs) (d : Due) → AtFieldValue names start tells o ss f t → pair_value t.wanted ≡ d
      → RefusesStep (λ b. fill_field b f) needs (NamesFields needs tells (place_known f) e ss (awaiting d t.state)) e ss (awaiting d t.state) z → Refuses (reads_struct names start) (option_map (asking_fields names {ss = start}) tells) needs e o z
  value_refused needs e o z ss f t d h due =
      subst (λ q. RefusesStep (λ b. fill_field b f) needs (NamesFields needs tells (place_known f) e ss (awaiting q t.state)) e ss (awaiting q t.state) z → Refuses (reads_struct names start) (option_map (asking_fields names {ss = start}) tells) needs e o z) due
      (step_refused names start tells needs e o z ss f t h)

  -- ---- a row

  -- the row after the key of its next field was looked at
  abbrev row_after : MapHead → State → OpenPairs
  row_after h s = after_key (pairs_head h s) (past (awaiting (pair_key (pairs_head h s).wanted) s) s.source)

  row_named : (o : State) (ss : List StructField) (f : Field) (h : MapHead) (s : State) → h.row ≡ true → AtField names start tells o ss (pairs_head h s) → NamesKey names h.at s f → AtFieldValue names start tells o ss f (row_after h s)
  row_named o ss f h s row at key =
      let u : OpenPairs = pairs_head h s in
      struct_field names start tells o ss f u (row_after h s) at
      (row_key names f u key.name at.pending at.inside.took.failed (sym (field_key s.keys h.row h.at row) ∙ key.due) key.utf8 key.found)

  row_value_due : (h : MapHead) (s : State) → h.row ≡ true → pair_value (row_after h s).wanted ≡ field_due
  row_value_due h s row = ap pair_value (sym (field_passed s.keys h.row h.at row)) ∙ sym (field_value s.keys h.row (h.at + 1) row)

  pub row_step : (o z : State) (ss : List StructField) (f : Field) (h : MapHead) (s q : State) (keeps : List StructField → Type 0) → h.row ≡ true → AtField names start tells o ss (pairs_head h s) → NamesKey names h.at s f → q ≡ awaiting field_due s
      → (m : MakesStep (λ b. fill_field b f) keeps ss q z) → AtField names start tells o m.next (pairs_head (record h { at = h.at + 1 }) z)
  row_step o z ss f h s q keeps row at key due m =
      let same : z.keys ≡ s.keys = ap (λ (y : State). y.keys) m.state ∙ ap (λ (y : State). y.keys) due in
      let wanted : pairs_after (wanted_pairs s.keys h.row h.at) ≡ wanted_pairs z.keys h.row (h.at + 1) = sym (field_passed s.keys h.row h.at row) ∙ ap (λ ks. wanted_pairs ks h.row (h.at + 1)) (sym same) in
      subst (λ y. (m : MakesStep (λ b. fill_field b f) keeps ss y z) → AtField names start tells o m.next (pairs_head (record h { at = h.at + 1 }) z)) (sym due)
      (value_taken o z ss f (row_after h s) field_due (wanted_pairs z.keys h.row (h.at + 1)) keeps (row_named o ss f h s row at key) (row_value_due h s row) wanted) m

  pub row_refused : (needs : Needs) (e : Error) (o z : State) (ss : List StructField) (f : Field) (h : MapHead) (s q : State) → h.row ≡ true → AtField names start tells o ss (pairs_head h s) → NamesKey names h.at s f → q ≡ awaiting field_due s
      → RefusesStep (λ b. fill_field b f) needs (NamesFields needs tells (place_known f) e ss q) e ss q z → Refuses (reads_struct names start) (option_map (asking_fields names {ss = start}) tells) needs e o z
  row_refused needs e o z ss f h s q row at key due =
      subst (λ y. RefusesStep (λ b. fill_field b f) needs (NamesFields needs tells (place_known f) e ss y) e ss y z → Refuses (reads_struct names start) (option_map (asking_fields names {ss = start}) tells) needs e o z) (sym due)
      (value_refused needs e o z ss f (row_after h s) field_due (row_named o ss f h s row at key) (row_value_due h s row))

  -- ---- an object

  object_key : (ss : List StructField) (f : Field) (h : MapHead) (s k m : State) → h.row ≡ false → 0 < h.at → k ≡ awaiting key_due s → Answers reads_string (HoldsField names) k m f
      → IsKey reads_string (HoldsField names) (pairs_head h s) (after_key (pairs_head h s) m) f
  object_key ss f h s k m row some due a = record {
    read = refl;
    counted = some_left s.keys h.row h.at row some;
    answers = subst (λ y. Answers reads_string (HoldsField names) y m f) (due ∙ ap {A = Due} {B = State} (λ d. awaiting d s) (entry_key s.keys h.row h.at row)) a;
    after = refl;
  }

  object_named : (o : State) (ss : List StructField) (f : Field) (h : MapHead) (s k m : State) → h.row ≡ false → 0 < h.at → k ≡ awaiting key_due s → AtField names start tells o ss (pairs_head h s) → Answers reads_string (HoldsField names) k m f
      → AtFieldValue names start tells o ss f (after_key (pairs_head h s) m)
  object_named o ss f h s k m row some due at a =
      struct_field names start tells o ss f (pairs_head h s) (after_key (pairs_head h s) m) at (object_key ss f h s k m row some due a)

  object_value_due : (h : MapHead) (s : State) → h.row ≡ false → pair_value (pairs_after (wanted_pairs s.keys h.row h.at)) ≡ node_due
  object_value_due h s row = ap pair_value (sym (entry_passed s.keys h.row h.at row)) ∙ sym (entry_value s.keys h.row (h.at - 1) row)

  pub object_step : (o z : State) (ss : List StructField) (f : Field) (h : MapHead) (s k m q : State) (keeps : List StructField → Type 0) → h.row ≡ false → 0 < h.at → k ≡ awaiting key_due s → AtField names start tells o ss (pairs_head h s)
      → Answers reads_string (HoldsField names) k m f → q ≡ awaiting node_due m → (p : MakesStep (λ b. fill_field b f) keeps ss q z) → AtField names start tells o p.next (pairs_head (record h { at = h.at - 1 }) z)
  object_step o z ss f h s k m q keeps row some key at a due p =
      let same : z.keys ≡ s.keys = ap (λ (y : State). y.keys) p.state ∙ ap (λ (y : State). y.keys) due ∙ ap (λ (y : State). y.keys) a.state ∙ ap (λ (y : State). y.keys) key in
      let wanted : pairs_after (wanted_pairs s.keys h.row h.at) ≡ wanted_pairs z.keys h.row (h.at - 1) = sym (entry_passed s.keys h.row h.at row) ∙ ap (λ ks. wanted_pairs ks h.row (h.at - 1)) (sym same) in
      subst (λ y. (p : MakesStep (λ b. fill_field b f) keeps ss y z) → AtField names start tells o p.next (pairs_head (record h { at = h.at - 1 }) z)) (sym due)
      (value_taken o z ss f (after_key (pairs_head h s) m) node_due (wanted_pairs z.keys h.row (h.at - 1)) keeps (object_named o ss f h s k m row some key at a) (object_value_due h s row) wanted) p

  pub object_refused : (needs : Needs) (e : Error) (o z : State) (ss : List StructField) (f : Field) (h : MapHead) (s k m q : State) → h.row ≡ false → 0 < h.at → k ≡ awaiting key_due s → AtField names start tells o ss (pairs_head h s)
      → Answers reads_string (HoldsField names) k m f → q ≡ awaiting node_due m
      → RefusesStep (λ b. fill_field b f) needs (NamesFields needs tells (place_known f) e ss q) e ss q z → Refuses (reads_struct names start) (option_map (asking_fields names {ss = start}) tells) needs e o z
  object_refused needs e o z ss f h s k m q row some key at a due =
      subst (λ y. RefusesStep (λ b. fill_field b f) needs (NamesFields needs tells (place_known f) e ss y) e ss y z → Refuses (reads_struct names start) (option_map (asking_fields names {ss = start}) tells) needs e o z) (sym due)
      (value_refused needs e o z ss f (after_key (pairs_head h s) m) node_due (object_named o ss f h s k m row some key at a) (object_value_due h s row))

  pub object_name_refused : (needs : Needs) (e : Error) (o z : State) (ss : List StructField) (h : MapHead) (s k : State) → h.row ≡ false → 0 < h.at → k ≡ awaiting key_due s → AtField names start tells o ss (pairs_head h s)
      → Refuses reads_string (Some asking_string) bare e k z → Refuses (reads_struct names start) (option_map (asking_fields names {ss = start}) tells) needs e o z
  object_name_refused needs e o z ss h s k row some key at is =
      name_refused names start tells needs e o z ss (pairs_head h s) h.at at (wanted_entries s.keys h.row h.at row) some (subst (λ y. Refuses reads_string (Some asking_string) bare e y z) key is)

  -- ---- the end

  -- all entries were read, and each field that has to be there
  pub struct_ended : {V : Type 0} (holds : V → List (Content → Type 0)) (o z : State) (ss : List StructField) (h : MapHead) (s : State) (v : V) → AtField names start tells o ss (pairs_head h s) → pairs_left (wanted_pairs s.keys h.row h.at) ≡ 0
      → z ≡ after_closing h.levels h.opened s → FinishesEach holds ss (Some v) → Answers (reads_struct names start) (λ v. HoldsTuple (holds v)) o z v
  struct_ended holds o z ss h s v at over closes n =
      struct_end names start tells (λ v. HoldsTuple (holds v)) o z ss (pairs_head h s) (list_of n.0) v at
      (record { working = at.inside.took.failed; read = refl; counted = over; state = closes })
      (ap (option_map list_of) n.1) (record { contents = n.0; list = refl; held = n.2 })

  pub struct_lacks : (needs : Needs) (e : Error) (o z : State) (ss : List StructField) (h : MapHead) (s : State) → AtField names start tells o ss (pairs_head h s) → pairs_left (wanted_pairs s.keys h.row h.at) ≡ 0
      → each_some field_at_end ss ≡ None → e ≡ after_a_refusal s.source.failed (complain TooFewItems) → z ≡ refused s → Refuses (reads_struct names start) (option_map (asking_fields names {ss = start}) tells) needs e o z
  struct_lacks needs e o z ss h s at over none name closes = field_absent names start tells needs e o z ss (pairs_head h s) at over none name closes
