use Rattle.watchman_client.proofs.Runs.{run_whole}
use Rattle.watchman_client.proofs.laws.whole_run.Goals as goal

pub returns : goal.returns
returns g c = run_whole g.W.Sink.took
