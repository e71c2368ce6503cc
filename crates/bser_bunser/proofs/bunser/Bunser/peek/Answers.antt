-- No byte is left.
use Rattle.std.proofs.Common.{◌≡◌, ℕ, ◌<◌, List, [], ◌∷◌, length, refl, ap, arith}
use Rattle.bser_format.specs.Named as named
use Rattle.bser_bunser.proofs.Refusals.{short_of}
use Rattle.bser_bunser.proofs.Names.{short_blames}
use Rattle.bser_bunser.proofs.bunser.Bunser.peek.Goals as goal

cut_next : (x : List ℕ) → length x < 1 → named.next x ≡ named.refuses named.eof
cut_next [] few = refl
cut_next (b ∷ x) few = absurd (omega (arith, few))

pub returns-in-Err-clause-names : goal.returns-in-Err-clause-names
returns-in-Err-clause-names g c =
    rw (← c.self.view_is, c.de_reader_error.ensures)
    (short_blames _ 1 _ _ _ (short_of 1 c.in-Err.cause _ _ c.in-Err.ensures.err) (λ x m few. cut_next x few))
