use Rattle.serde_bser.specs.ValueView.{tree_of}
use Rattle.bser_laws.proofs.Shorter.{least_folded}
use Rattle.bser_laws.proofs.least.least_compact_message.Goals as goal

pub returns : goal.returns
returns c = record {
  message = c.to_compact_vec.ensures.ok;
  least = least_folded (λ m. m.items) (tree_of c.args.value.now) c.to_compact_vec.result c.to_compact_vec.ensures.ok;
  refused = c.to_compact_vec.ensures.err;
}
