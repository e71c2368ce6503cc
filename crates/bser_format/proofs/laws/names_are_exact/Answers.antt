use Rattle.bser_format.proofs.Exact.{reads_spelled, refuses_rest}
use Rattle.bser_format.proofs.Messages.{reads_messages}
use Rattle.bser_format.proofs.laws.names_are_exact.Goals as goal

pub returns : goal.returns
returns c = record { read = reads_spelled; refused = refuses_rest; messages = reads_messages }
