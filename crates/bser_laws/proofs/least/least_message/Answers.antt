use Rattle.serde_bser.specs.ValueView.{tree_of}
use Rattle.bser_laws.proofs.Shorter.{message_is, least_written}
use Rattle.bser_laws.proofs.least.least_message.Goals as goal

pub returns : goal.returns
returns c = record {
  message = message_is (λ m. m.items) (tree_of c.args.value.now) c.to_vec.result c.to_vec.ensures.ok;
  least = least_written (λ m. m.items) (tree_of c.args.value.now) c.to_vec.result c.to_vec.ensures.ok;
  refused = c.to_vec.ensures.err;
}
