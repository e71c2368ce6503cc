-- Keys that are read as the fields of a struct.
use Rattle.std.proofs.Common.{◌≡◌, ℕ, Bool, true, List, sym, ap, ◌∙◌}
use Rattle.bser_format.specs.Content.{byte_list}
use Rattle.bser_format.specs.ReadsScalars.{reads_string}
use Rattle.bser_deserializer.specs.State.{State}
use Rattle.bser_deserializer.specs.Reading.{Answers}
use Rattle.bser_deserializer.specs.Fields.{HoldsField, field_of}
use Rattle.bser_deserializer.specs.Dues.{name_at}
use Rattle.bser_deserializer.specs.Parts.{wanted_pairs, pair_key}
use Rattle.bser_deserializer.specs.Access.{OpenPairs, AwaitsKey}
use Rattle.bser_deserializer.specs.declared.field.Field.{Field}
use Rattle.bser_types.proofs.Pairs.{field_key}
use Rattle.bser_types.proofs.Lists.{answers_as}

-- the field of a name that was read
pub field_named : {A : Type 0} (names : List (List ℕ)) (held : A → List ℕ) (s t : State) (v : A) (f : Field) → Answers reads_string (λ w c. c ≡ byte_list (held w)) s t v → f ≡ field_of names (held v)
    → Answers reads_string (HoldsField names) s t f
field_named {A = A} names held s t v f a same = answers_as (λ (w : A) c. c ≡ byte_list (held w)) (λ c h. (held v, h, same)) a

-- the key of a row's field is due
pub row_awaited : (old new : OpenPairs) (row : Bool) (at : ℕ) → AwaitsKey old new → new.wanted ≡ wanted_pairs new.state.keys row at → row ≡ true → new.state.due ≡ name_at at new.state.keys
row_awaited old new row at a is r =
    ap (λ (u : OpenPairs). u.state.due) a.same ∙ ap pair_key (sym (ap (λ (u : OpenPairs). u.wanted) a.same) ∙ is) ∙ sym (field_key new.state.keys row at r)
