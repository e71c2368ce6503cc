use Rattle.bser_format.specs.Compact.{compact_message, fold_templates}
use Rattle.bser_laws.specs.Least.{IsAny}
use Rattle.bser_laws.proofs.Shorter.{rewritten, not_rewritten}
use Rattle.bser_laws.proofs.least.compactly_rewritten.Goals as goal

pub returns : goal.returns
returns c = record {
  written = rewritten (λ m. m.items) compact_message IsAny c.args.bytes.now _ c.least_compact_message.result c.in_ok-value.ensures.found c.least_compact_message.ensures.message c.least_compact_message.ensures.least;
  refused = not_rewritten fold_templates _ _ c.args.bytes.now _ c.least_compact_message.result c.in_ok-value.ensures.found c.least_compact_message.ensures.refused;
}
