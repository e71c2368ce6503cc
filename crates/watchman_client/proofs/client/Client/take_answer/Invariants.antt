use Rattle.std.proofs.Common.{◌≡◌, ℕ, List, Option}
use Rattle.watchman_client.specs.Steps.{GivesNothing}
use Rattle.watchman_client.specs.Views.{Connection, StaysWithin, view_of, room_of}
use Rattle.watchman_client.proofs.client.Client.take_answer.Given as goal

-- nothing was given so far, neither the writer nor whether a call failed has changed, and what is
-- kept is within the bounds
pub record Keeping {S W : Type 0} (remaining : S → Option (List ℕ)) (old now : Connection S W) : Type 0 where
  pub nothing : GivesNothing (view_of remaining old) (view_of remaining now)
  pub failed : now.failed ≡ old.failed
  pub writer : now.writer ≡ old.writer
  pub within : StaysWithin old now

abbrev pub invariant-loop : goal.invariant-loop
invariant-loop g l = Keeping g.S.Source.remaining l.fn.self l.self

abbrev pub decreases-loop : goal.decreases-loop
decreases-loop g l = room_of l.self
