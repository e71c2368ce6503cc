use Rattle.bser_deserializer.specs.Seen.{Seen}
use Rattle.bser_deserializer.proofs.Openings.{if_ok, if_err}
use Rattle.bser_types.specs.Slots.{required}
use Rattle.bser_structs.proofs.Places.{slot_read, slot_refused}
use Rattle.bser_structs.proofs.slot.RequiredSlot.fill.Goals as goal

pub returns-clause-found : goal.returns-clause-found
returns-clause-found g c =
    let o : Seen = c.args.from.now in
    let z : Seen = c.read_once.new.from in
    if_ok _ _ c.read_once.result (λ v once s keeps. slot_read (required g.T.Shape.reads) g.T.Shape.holds c.args.self.now.value c.read_once.new.value s o z once keeps) c.read_once.ensures.found

pub returns-clause-refused : goal.returns-clause-refused
returns-clause-refused g c =
    let o : Seen = c.args.from.now in
    let z : Seen = c.read_once.new.from in
    if_err _ _ c.read_once.result (λ r s keeps. slot_refused (required g.T.Shape.reads) g.T.Shape.holds g.T.Shape.asks g.T.Shape.needs c.args.self.now.value s o z r keeps) c.read_once.ensures.refused
