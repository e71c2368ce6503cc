-- The line that stands for want of memory is one of this program.
use Rattle.std.proofs.Common.{codes, refl}
use Rattle.bser_canonical.proofs.program.report.Goals as goal

pub returns-in-Err : goal.returns-in-Err
returns-in-Err g c = record { line = _; report = (codes "out of memory", refl); put = c.put-in-Err.ensures }
