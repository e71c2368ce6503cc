-- The place of what is described lies within the input.
use Rattle.bser_messages.proofs.Places.{lies_within}
use Rattle.bser_messages.proofs.progress.Progress.describe.Goals as goal

pub returns-clause-within : goal.returns-clause-within
returns-clause-within c =
    lies_within c.args.cause c.args.self.note c.args.self.count c.args.len _ c.description_of.ensures.cause c.description_of.ensures.place
