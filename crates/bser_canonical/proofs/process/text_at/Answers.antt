use Rattle.std.proofs.Common.{rules}
use Rattle.bser_canonical.proofs.Words.{copied, too_long}
use Rattle.bser_canonical.proofs.process.text_at.Goals as goal
use Rattle.bser_canonical.proofs.process.text_at.Goals.{in-Ok, in-Err-TooLong}

pub returns : goal.returns
returns g c = elim c.match-argument.branch [
  | in-Ok w ↦ (λ words told. copied _ _ c.argument.new.bytes _ (w.in-Ok.ensures.given words told) (rw (← w.len-is, c.in_ok-from_str.ensures.ok) c.text_of.ensures))
  | in-Err-TooLong w ↦ (λ words told. too_long _ _ c.argument.new.bytes _ (rw (← w.in-Err-TooLong.field-0-is) (w.in-Err-TooLong.ensures.given words told)) (search rules) w.len-is (rw (c.in_ok-from_str.ensures.ok) c.text_of.ensures))
]
