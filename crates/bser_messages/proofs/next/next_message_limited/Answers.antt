-- The next message of a reader.
use Rattle.std.proofs.Common.{rules, ap, ◌∙◌}
use Rattle.bser_deserializer.proofs.Openings.{if_ok}
use Rattle.bser_messages.proofs.Sources.{fresh_itself, if_refused}
use Rattle.bser_messages.proofs.Nexts.{given_known, next_known}
use Rattle.bser_messages.proofs.next.next_message_limited.Goals as goal

pub read_next-answer-requires-clause-fresh : goal.read_next-answer-requires-clause-fresh
read_next-answer-requires-clause-fresh g c = fresh_itself _ _ _ _ (c.unread-from.ensures.source ∙ c.new.ensures.window)

pub returns-clause-found : goal.returns-clause-found
returns-clause-found g c =
    let fresh = c.unread-from.ensures.source ∙ c.new.ensures.window in
    if_ok _ _ c.read_next-answer.result (λ v u. given_known c.args.limits.levels c.args.limits.bytes g.T.Shape.reads g.T.Shape.holds _ _ _ _ v (ap (λ w. w.beyond) fresh) (search rules) u) c.read_next-answer.ensures.found

pub returns-clause-refused : goal.returns-clause-refused
returns-clause-refused g c =
    let fresh = c.unread-from.ensures.source ∙ c.new.ensures.window in
    if_refused c.read_next-answer.result _ _ (λ e u. next_known c.args.limits.levels c.args.limits.bytes g.T.Shape.reads g.T.Shape.asks e _ _ _ _ _ _ _ _ (ap (λ w. w.beyond) fresh) (search rules) (ap (λ w. w.failures) fresh) (search rules) u) c.read_next-answer.ensures.refused
