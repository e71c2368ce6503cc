use Rattle.watchman_client.proofs.Calls.{sends}
use Rattle.watchman_client.proofs.laws.send_is_a_step.Goals as goal

pub returns : goal.returns
returns g c = sends g.S.Source.remaining g.W.Sink _ _ c.send.result _ c.send.ensures.asked c.send.ensures.sent c.send.ensures.refused
