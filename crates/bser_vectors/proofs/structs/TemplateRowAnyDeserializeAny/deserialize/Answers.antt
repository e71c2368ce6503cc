use Rattle.std.proofs.Common.{rules}
use mir.Val.{SFits}
use Rattle.std.specs.Int.{w32}
use Rattle.std.proofs.lemmas.Int.{to_z-of_z}
use Rattle.bser_structs.proofs.FieldValues.{fields_are}
use Rattle.bser_vectors.proofs.structs.TemplateRowAnyDeserializeAny.deserialize.Goals as goal

pub returns-clause-found : goal.returns-clause-found
returns-clause-found g c =
    let fits : SFits w32 c.in_ok-abc.abc = search rules in
    rw (to_z-of_z w32 c.in_ok-abc.abc fits) (fields_are _ _ _ _ _ _ _ (λ d h. h) c.in_ok-abc.ensures.found)
