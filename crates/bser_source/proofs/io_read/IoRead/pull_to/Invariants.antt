use Rattle.std.proofs.Common.{◌≡◌, ◌-◌, ℕ, false, Bool}
use Rattle.bser_source.specs.Window.{Window, Grown}
use Rattle.bser_source.specs.Reader.{io_at}
use Rattle.bser_source.proofs.io_read.IoRead.pull_to.Given as goal

-- what is buffered grows
pub record Pulling (n start : ℕ) (failed : Bool) (a b : Window) : Type 0 where
  pub grown : Grown n a b
  pub front : start ≡ 0
  pub working : failed ≡ false

abbrev pub invariant-loop-self : goal.invariant-loop-self
invariant-loop-self g l = Pulling l.n l.self.start l.self.failed
    (io_at g.S.Source.remaining g.S.Source.failures g.S.Source.through l.initial.self)
    (io_at g.S.Source.remaining g.S.Source.failures g.S.Source.through l.self)

abbrev pub decreases-loop-self : goal.decreases-loop-self
decreases-loop-self g l = l.n - l.self.end
