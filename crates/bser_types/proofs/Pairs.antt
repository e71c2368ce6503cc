-- What the calls on an open object make of a key's and a value's answers.
use Rattle.std.proofs.Common.{subst, ◌≡◌, ℕ, zero, suc, ◌+◌, ◌-◌, ◌<◌, Bool, true, false, List, [], ◌∷◌, drop, Option, refl, ap, ◌∙◌, arith}
use Rattle.bser_format.specs.Content.{Meaning}
use Rattle.bser_format.specs.Expected.{fields_of_row, node_due, key_due, field_due}
use Rattle.bser_format.specs.Expected as expected
use Rattle.bser_format.specs.declared.errors.Error.{Error}
use Rattle.bser_format.specs.declared.errors.Complaint.TheVariants.{ValueOpen}
use Rattle.bser_format.specs.Named.{complain}
use Rattle.bser_deserializer.specs.State.{State, awaiting}
use Rattle.bser_deserializer.specs.Parts.{wanted_pairs, pairs_left, pair_key, pair_value, pairs_after}
use Rattle.bser_deserializer.specs.Dues.{name_at}
use Rattle.bser_deserializer.specs.Access.{OpenPairs, pairs_in, AwaitsKey, OutOfTurn, RefusesKey, RefusesValue}
use Rattle.bser_deserializer.specs.Reading.{Asking, Refuses, Needs}
use Rattle.bser_types.proofs.Taken.{failed_before}

-- ---- what is due

name_of : (at : ℕ) (ks : List (List ℕ)) → name_at at ks ≡ pair_key (fields_of_row (drop at ks))
name_of zero [] = refl
name_of (suc at) [] = refl
name_of zero (k ∷ ks) = refl
name_of (suc at) (k ∷ ks) = name_of at ks

-- the key of a row's field is due
pub field_key : (ks : List (List ℕ)) (row : Bool) (at : ℕ) → row ≡ true → name_at at ks ≡ pair_key (wanted_pairs ks row at)
field_key ks true at r = name_of at ks
field_key ks false at r = absurd cc

-- an object's key is due
pub entry_key : (ks : List (List ℕ)) (row : Bool) (at : ℕ) → row ≡ false → key_due ≡ pair_key (wanted_pairs ks row at)
entry_key ks true at r = absurd cc
entry_key ks false at r = refl

-- the value of a row's field is due
pub field_value : (ks : List (List ℕ)) (row : Bool) (at : ℕ) → row ≡ true → field_due ≡ pair_value (wanted_pairs ks row at)
field_value ks true at r = refl
field_value ks false at r = absurd cc

-- the value of an object's entry is due
pub entry_value : (ks : List (List ℕ)) (row : Bool) (at : ℕ) → row ≡ false → node_due ≡ pair_value (wanted_pairs ks row at)
entry_value ks true at r = absurd cc
entry_value ks false at r = refl

pub awaits_key : (old : OpenPairs) (d : expected.Due) → old.state.source.failed ≡ false → old.pending ≡ false → 0 < pairs_left old.wanted → d ≡ pair_key old.wanted
    → AwaitsKey old (pairs_in old (awaiting d old.state) old.wanted old.pending)
awaits_key old d working read counted due = record {
  working = working;
  read = read;
  counted = counted;
  same = ap {A = expected.Due} {B = OpenPairs} (λ d. pairs_in old (awaiting d old.state) old.wanted old.pending) due;
}

-- ---- what is left

after_fields : (at : ℕ) (ks : List (List ℕ)) → fields_of_row (drop (suc at) ks) ≡ pairs_after (fields_of_row (drop at ks))
after_fields zero [] = refl
after_fields zero (k ∷ ks) = refl
after_fields (suc at) [] = refl
after_fields (suc at) (k ∷ ks) = after_fields at ks

-- a field of a row is passed
pub field_passed : (ks : List (List ℕ)) (row : Bool) (at : ℕ) → row ≡ true → wanted_pairs ks row (at + 1) ≡ pairs_after (wanted_pairs ks row at)
field_passed ks true at r = let n : at + 1 ≡ suc at = omega arith in ap (λ m. fields_of_row (drop m ks)) n ∙ after_fields at ks
field_passed ks false at r = absurd cc

-- an entry of an object is passed
pub entry_passed : (ks : List (List ℕ)) (row : Bool) (at : ℕ) → row ≡ false → wanted_pairs ks row (at - 1) ≡ pairs_after (wanted_pairs ks row at)
entry_passed ks true at r = absurd cc
entry_passed ks false at r = refl

-- ---- out of turn

failed_else : (failed : Bool) → (failed ≡ false → ⊥) → failed ≡ true
failed_else true h = refl
failed_else false h = absurd (h refl)

-- a key where a value is due, or after a refusal
pub key_out_of_turn : (reads : Meaning) (asks : Option (Asking reads)) (needs : Needs) (e : Error) (old new : OpenPairs) → OutOfTurn e old.state new.state
    → (old.state.source.failed ≡ false → old.pending ≡ true) → RefusesKey reads asks needs e old new.state
key_out_of_turn reads asks needs e old new out turn = record {
  counted = λ working read. absurd (let p = turn working in cc);
  refuses = λ read. failed_before reads asks needs e (complain ValueOpen) (awaiting (pair_key old.wanted) old.state) new.state
      (failed_else old.state.source.failed (λ working. let p = turn working in cc)) out.name (ap (λ (s : State). s.source) out.state);
  turn = λ pending. out;
}

-- a value where a key is due, or after a refusal
pub value_out_of_turn : (reads : Meaning) (asks : Option (Asking reads)) (needs : Needs) (e : Error) (old new : OpenPairs) → OutOfTurn e old.state new.state
    → (old.state.source.failed ≡ false → old.pending ≡ false) → RefusesValue reads asks needs e old new.state
value_out_of_turn reads asks needs e old new out turn = record {
  refuses = λ key. failed_before reads asks needs e (complain ValueOpen) (awaiting (pair_value old.wanted) old.state) new.state
      (failed_else old.state.source.failed (λ working. let p = turn working in cc)) out.name (ap (λ (s : State). s.source) out.state);
  turn = λ pending. out;
}

-- a key that is due is refused
pub key_refused : (reads : Meaning) (asks : Option (Asking reads)) (needs : Needs) (e : Error) (old mid : OpenPairs) (new : State) → AwaitsKey old mid
    → Refuses reads asks needs e mid.state new → RefusesKey reads asks needs e old new
key_refused reads asks needs e old mid new awaits u = record {
  counted = λ works read. awaits.counted;
  refuses = λ read. subst (λ (m : OpenPairs). Refuses reads asks needs e m.state new) awaits.same u;
  turn = λ pending. absurd (let read = awaits.read in cc);
}
