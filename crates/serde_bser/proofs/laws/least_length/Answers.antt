use Rattle.bser_format.proofs.Bounds.{least_message}
use Rattle.serde_bser.proofs.laws.least_length.Goals as goal

pub returns : goal.returns
returns c = least_message
