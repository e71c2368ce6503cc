use Rattle.bser_format.specs.Canonical.{canonical_message}
use Rattle.bser_format.specs.Expand.{IsTemplateFree}
use Rattle.bser_laws.proofs.Shorter.{rewritten, not_rewritten}
use Rattle.bser_laws.proofs.least.rewritten.Goals as goal

pub returns : goal.returns
returns c = record {
  written = rewritten (λ m. m.items) canonical_message IsTemplateFree c.args.bytes.now _ c.least_message.result c.in_ok-value.ensures.found c.least_message.ensures.message c.least_message.ensures.least;
  refused = not_rewritten (λ t. t) _ _ c.args.bytes.now _ c.least_message.result c.in_ok-value.ensures.found c.least_message.ensures.refused;
}
