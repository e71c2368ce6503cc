use Rattle.std.proofs.Common.{refl}
use Rattle.bser_deserializer.specs.Seen.{Seen}
use Rattle.bser_deserializer.proofs.Openings.{if_ok, if_err}
use Rattle.bser_types.specs.Slots.{required}
use Rattle.bser_structs.proofs.Places.{first_read, first_read_refused}
use Rattle.bser_structs.proofs.slot.RequiredSlot.read.Goals as goal

pub returns-clause-found : goal.returns-clause-found
returns-clause-found g c =
    let o : Seen = c.args.from.now in
    let z : Seen = c.deserialize.new.from in
    if_ok _ _ c.deserialize.result (λ v a. first_read (required g.T.Shape.reads) g.T.Shape.holds o z v refl a) c.deserialize.ensures.found

pub returns-clause-refused : goal.returns-clause-refused
returns-clause-refused g c =
    let o : Seen = c.args.from.now in
    let z : Seen = c.deserialize.new.from in
    if_err _ _ c.deserialize.result (λ r. first_read_refused (required g.T.Shape.reads) g.T.Shape.holds g.T.Shape.asks g.T.Shape.needs o z refl r) c.deserialize.ensures.refused
