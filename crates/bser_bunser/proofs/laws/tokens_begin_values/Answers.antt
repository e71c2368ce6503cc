use Rattle.bser_bunser.proofs.Values.{tokens_begin}
use Rattle.bser_bunser.proofs.laws.tokens_begin_values.Goals as goal

pub returns : goal.returns
returns c = tokens_begin
