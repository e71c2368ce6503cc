use Rattle.bser_format.proofs.Folded.{folded_stands, folded_depth}
use Rattle.bser_format.proofs.FoldedFits.{folded_writable, short_writable}
use Rattle.serde_bser.proofs.laws.compact_tree.Goals as goal

pub returns : goal.returns
returns c = record {
  same = folded_stands;
  depth = folded_depth;
  writable = folded_writable;
  short = short_writable;
}
