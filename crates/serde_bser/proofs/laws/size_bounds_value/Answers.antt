-- What a tree reads as is no larger.
use Rattle.bser_format.specs.Expand.{expand}
use Rattle.bser_format.proofs.Values.{normal_within}
use Rattle.bser_messages.proofs.ValueSizes.{normal_key_bytes}
use Rattle.serde_bser.proofs.laws.size_bounds_value.Goals as goal

pub returns : goal.returns
returns c = λ t v e. let within = normal_within (expand t) v e in (within.0, normal_key_bytes (expand t) v e, within.1)
