-- Nothing is told of a body that is too long.
use Rattle.bser_events.specs.Cut.{nowhere}
use Rattle.bser_messages.proofs.told_message.tell_body.Goals as goal

pub returns-then-len-most-clause-cut : goal.returns-then-len-most-clause-cut
returns-then-len-most-clause-cut g c = λ due. nowhere _ _
