-- A message of any length that was read, or refused.
use Rattle.bser_deserializer.proofs.Openings.{if_ok}
use Rattle.bser_messages.proofs.Sources.{if_refused}
use Rattle.bser_messages.proofs.Within.{unlimited_refused}
use Rattle.bser_messages.proofs.message.read_message.Goals as goal

pub returns-clause-found : goal.returns-clause-found
returns-clause-found g c = if_ok _ _ c.read_limited.result (λ v u. u.whole) c.read_limited.ensures.found

pub returns-clause-refused : goal.returns-clause-refused
returns-clause-refused g c =
    if_refused c.read_limited.result _ _ (λ e u. unlimited_refused c.args.limit g.T.Shape.reads g.T.Shape.asks g.T.Shape.needs e _ _ u) c.read_limited.ensures.refused
