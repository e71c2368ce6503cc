use Rattle.watchman_client.proofs.Calls.{gives}
use Rattle.watchman_client.proofs.laws.next_unsolicited_is_a_step.Goals as goal

pub returns : goal.returns
returns g c = gives g.S.Source.remaining g.W.Sink c.args.client.now c.next_unsolicited.new.self c.next_unsolicited.result c.next_unsolicited.ensures.given c.next_unsolicited.ensures.none c.next_unsolicited.ensures.nothing c.next_unsolicited.ensures.writer
