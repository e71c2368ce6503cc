-- The quotes are left out.
use Rattle.std.proofs.Common.{arith}
use Rattle.bser_json.proofs.Parts.{between_quotes}
use Rattle.bser_json.proofs.text.within_quotes.Goals as goal

pub returns : goal.returns
returns c = between_quotes c.args.text.now c.saturating_sub-end.result c.min.result (omega (arith, c.saturating_sub-end.ensures)) (omega (arith, c.min.ensures))
