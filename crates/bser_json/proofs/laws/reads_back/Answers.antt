use Rattle.bser_json.proofs.ReadsBack.{printed_is_made}
use Rattle.bser_json.proofs.laws.reads_back.Goals as goal

pub returns : goal.returns
returns c = printed_is_made
