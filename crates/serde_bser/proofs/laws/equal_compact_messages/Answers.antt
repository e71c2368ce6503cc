use Rattle.std.proofs.Common.{ap}
use Rattle.bser_format.specs.Compact.{compact_message}
use Rattle.bser_format.proofs.CompactMessages.{equal_compact}
use Rattle.serde_bser.proofs.laws.equal_compact_messages.Goals as goal

pub returns : goal.returns
returns g = λ t u h k l m. (equal_compact t u h k l m, λ e. ap compact_message e)
