-- What follows a count.
use Rattle.bser_events.proofs.AtStart.{counted}
use Rattle.bser_events.proofs.fronts.count.Goals as goal

pub returns-in-Found : goal.returns-in-Found
returns-in-Found c k = counted k c.in-Found.value c.in-Found.len c.args.bytes.now c.in-Found.ensures
