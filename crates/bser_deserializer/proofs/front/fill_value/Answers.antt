-- No byte is left of the value that is due.
use Rattle.std.proofs.Common.{◌≡◌, ap, map}
use Rattle.bser_events.proofs.Outcomes.{each_err}
use Rattle.bser_format.specs.Expected.{node_due}
use Rattle.bser_deserializer.specs.Dues.{due_of}
use Rattle.bser_deserializer.specs.State.{State, with_source}
use Rattle.bser_deserializer.specs.View.{seen_of}
use Rattle.bser_deserializer.proofs.Buffered.{value_missing}
use Rattle.bser_deserializer.proofs.Told.{any_value_refused}
use Rattle.bser_deserializer.proofs.front.fill_value.Goals as goal

pub returns-in-Node-clause-refused : goal.returns-in-Node-clause-refused
returns-in-Node-clause-refused g c =
    let s : State = (seen_of g.R.Lent.Lending.kept c.from.inside).state in
    let due : s.due ≡ node_due = ap (due_of (map g.R.Lent.Lending.kept c.from.inside.keys.items) c.from.inside.place) c.in-Node.is in
    rw (← c.from.view_is)
    (each_err _ _ c.fill.result c.fill.ensures.refused
    (λ h. any_value_refused _ s (with_source s c.fill.new.self.window) due h.err.fails (value_missing s.levels _ s.source h.names)))
