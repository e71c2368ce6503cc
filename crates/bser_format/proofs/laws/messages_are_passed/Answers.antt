use Rattle.bser_format.proofs.Messages.{message_passes}
use Rattle.bser_format.proofs.laws.messages_are_passed.Goals as goal

pub returns : goal.returns
returns c = message_passes
