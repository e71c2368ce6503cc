use Rattle.std.proofs.Common.{ap}
use Rattle.bser_format.specs.Canonical.{canonical_message}
use Rattle.bser_format.proofs.Fits.{equal_values}
use Rattle.serde_bser.proofs.laws.equal_messages.Goals as goal

pub returns : goal.returns
returns c t u h k l m = (equal_values t u h k l m, λ e. ap canonical_message e)
