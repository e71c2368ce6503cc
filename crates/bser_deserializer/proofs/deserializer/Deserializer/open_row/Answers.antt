-- A row has no bytes of its own.
use Rattle.std.proofs.Common.{ap}
use Rattle.bser_deserializer.specs.State.{State}
use Rattle.bser_deserializer.proofs.Containers.{opens_row}
use Rattle.bser_deserializer.proofs.deserializer.Deserializer.open_row.Goals as goal

pub returns-clause-opened : goal.returns-clause-opened
returns-clause-opened g c =
    let old : State = c.args.self.now.state in
    let new : State = c.enter-2.new.self.state in
    let levels = ap (λ v. v.state.levels) c.self.view_is in
    let opened = ap (λ v. v.state.opened) c.self.view_is in
    let inside = ap (λ v. v.state.levels) c.enter.view_is in
    rw (levels, opened) (opens_row old new c.requires.due c.requires.working (rw inside at c.enter-2.ensures.inside))
