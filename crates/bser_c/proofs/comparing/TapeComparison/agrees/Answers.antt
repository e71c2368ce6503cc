-- Where fewer than two words are left, none stand next.
use Rattle.std.proofs.Common.{arith}
use Rattle.bser_events.specs.Told.{told}
use Rattle.bser_c.proofs.Compares.{stands_two}
use Rattle.bser_c.proofs.comparing.TapeComparison.agrees.Goals as goal
use Rattle.bser_c.proofs.comparing.TapeComparison.agrees.Goals.{then-at-self-via-then-at-self, then-at-self-via-else-at-self+then-self-at-lt2}

pub returns-then-at-self-clause-other : goal.returns-then-at-self-clause-other
returns-then-at-self-clause-other c = λ h. (
    let two = stands_two c.args.self.now (told c.args.event) h in
    elim c.then-at-self.branch [ then-at-self-via-then-at-self w ↦ absurd (omega (arith, two)) | then-at-self-via-else-at-self+then-self-at-lt2 w ↦ absurd (omega (arith, two)) ]
    )
