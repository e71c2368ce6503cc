-- A reader whose message was read, and one that is refused.
use Rattle.std.proofs.Common.{rules, ap, ◌∙◌}
use Rattle.bser_deserializer.proofs.Openings.{if_ok}
use Rattle.bser_messages.proofs.Sources.{if_refused, fresh_itself, reader_refused, reader_counted, none_counted, reader_head}
use Rattle.bser_messages.proofs.message.from_reader_within.Goals as goal

pub returns-clause-refused : goal.returns-clause-refused
returns-clause-refused g c =
    let fresh = c.unread-from.ensures.source ∙ c.new.ensures.window in
    if_refused c.read_message-answer.result _ _ (λ e u. (
    let r = reader_refused c.args.limit g.T.Shape.reads g.T.Shape.asks g.T.Shape.needs e _ _ (search rules) (fresh_itself _ _ _ _ fresh) u in
    reader_counted c.args.limit g.T.Shape.reads g.T.Shape.asks e _ _ _ _ _ _ (ap (λ w. w.beyond) fresh) (ap (λ w. w.failures) fresh) (search rules) r)) c.read_message-answer.ensures.refused

pub returns-clause-kept : goal.returns-clause-kept
returns-clause-kept g c =
    let fresh = c.unread-from.ensures.source ∙ c.new.ensures.window in
    if_ok _ _ c.read_message-answer.result (λ v u. none_counted c.args.limit g.T.Shape.reads g.T.Shape.holds v _ _ _ _ (ap (λ w. w.failures) fresh) (search rules) u) c.read_message-answer.ensures.found

pub returns-clause-head : goal.returns-clause-head
returns-clause-head g c =
    let fresh = c.unread-from.ensures.source ∙ c.new.ensures.window in
    if_refused c.read_message-answer.result _ _ (λ e u memory. reader_head _ _ _ _ fresh (u memory)) c.read_message-answer.ensures.head
