use Rattle.serde_bser.specs.ValueView.{tree_of, HoldsValue}
use Rattle.bser_laws.proofs.Shorter.{bounded}
use Rattle.bser_laws.proofs.bounds.read_within_bounds.Goals as goal

pub returns : goal.returns
returns c = record {
  found = bounded tree_of HoldsValue c.args.bytes.now c.from_slice.result (λ v k h. h.same) c.from_slice.ensures.found;
  refused = c.from_slice.ensures.refused;
}
