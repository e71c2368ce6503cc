use Rattle.bser_format.proofs.Written.{written_out_spelled, same_expansion}
use Rattle.bser_format.proofs.Bounds.{written_out_one_tree}
use Rattle.serde_bser.proofs.laws.written_out.Goals as goal

pub returns : goal.returns
returns c = record { spelled = written_out_spelled; one_tree = written_out_one_tree; alike = same_expansion }
