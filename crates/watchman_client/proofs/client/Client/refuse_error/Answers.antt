-- A message that reports no error.
use Rattle.std.proofs.Common.{OnOk, subst}
use Rattle.watchman_client.specs.Kinds.{TellsNoError}
use Rattle.watchman_client.proofs.client.Client.refuse_error.Goals as goal

pub returns-then-self-clause-none : goal.returns-then-self-clause-none
returns-then-self-clause-none g c = rw (← c.self.view_is) (c.self.inside.told c.if-self.true)

pub returns-clause-none : goal.returns-clause-none
returns-clause-none g c = subst (λ m. OnOk c.refuse_error.result (TellsNoError m)) c.message.ensures c.refuse_error.ensures.none
