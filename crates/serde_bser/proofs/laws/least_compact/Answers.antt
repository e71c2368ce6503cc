use Rattle.bser_format.proofs.LeastCompact.{least_compact, compact_no_longer}
use Rattle.serde_bser.proofs.laws.least_compact.Goals as goal

pub returns : goal.returns
returns c = record { least = least_compact; canonical = compact_no_longer }
