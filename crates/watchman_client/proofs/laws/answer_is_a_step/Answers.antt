use Rattle.watchman_client.proofs.Calls.{answers}
use Rattle.watchman_client.proofs.laws.answer_is_a_step.Goals as goal

pub returns : goal.returns
returns g c = answers g.S.Source.remaining g.W.Sink c.args.client.now c.answer.new.self c.answer.result c.answer.ensures.given c.answer.ensures.nothing c.answer.ensures.writer
