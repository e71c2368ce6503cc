-- A message that is read or refused, of a slice whose bytes are copied.
use Rattle.std.proofs.Common.{rules, ap, subst, append-nil, ◌∙◌, Some}
use Rattle.bser_source.specs.Window.{left}
use Rattle.bser_messages.specs.Descriptions.{caused}
use Rattle.bser_messages.specs.Messages.{BeginWithHead}
use Rattle.bser_messages.proofs.Sources.{if_refused}
use Rattle.bser_frames.proofs.Copies.{copied_refused}
use Rattle.bser_frames.proofs.owned.read_owned.Goals as goal

pub returns-clause-refused : goal.returns-clause-refused
returns-clause-refused g c =
    if_refused (caused c.read_described-answer.result) _ _ (λ e u. copied_refused c.args.limit g.T.Shape.reads g.T.Shape.asks g.T.Shape.needs e c.args.bytes.now _ _ (search rules) (c.unread-from.ensures.source ∙ c.new.ensures) (search rules) u) c.read_described-answer.ensures.refused

pub returns-clause-head : goal.returns-clause-head
returns-clause-head g c =
    if_refused (caused c.read_described-answer.result) _ _ (λ e u memory. subst BeginWithHead (ap left (c.unread-from.ensures.source ∙ c.new.ensures) ∙ ap Some (append-nil c.args.bytes.now)) (u memory)) c.read_described-answer.ensures.head
