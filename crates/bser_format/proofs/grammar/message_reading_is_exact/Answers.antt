use Rattle.bser_format.proofs.Messages.{message_exact}
use Rattle.bser_format.proofs.grammar.message_reading_is_exact.Goals as goal

pub returns : goal.returns
returns c = message_exact
