use Rattle.watchman_client.proofs.Moves.{on_ok}
use Rattle.watchman_client.proofs.client.Client.read.Goals as goal

pub returns-clause-none : goal.returns-clause-none
returns-clause-none g c = on_ok c.read_value.result _ (λ v. c.in_ok-refuse_error.ensures.none)
