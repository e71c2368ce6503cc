-- A message of a reader, and a reader that is refused.
use Rattle.std.proofs.Common.{rules, ap, ◌∙◌}
use Rattle.bser_deserializer.proofs.Openings.{if_ok}
use Rattle.bser_messages.proofs.Sources.{if_refused, fresh_itself, none_counted, reader_head}
use Rattle.bser_messages.proofs.Readers.{reader_took, took_known, reader_known, reader_refused_within}
use Rattle.bser_messages.proofs.next.from_reader_limited.Goals as goal

pub returns-clause-found : goal.returns-clause-found
returns-clause-found g c =
    let fresh = c.unread-from.ensures.source ∙ c.new.ensures.window in
    if_ok _ _ c.read_limited-answer.result (λ v u. (
    took_known c.args.limits.levels c.args.limits.bytes g.T.Shape.reads g.T.Shape.holds _ _ _ _ v (ap (λ w. w.beyond) fresh) (search rules)
    (reader_took c.args.limits.levels c.args.limits.bytes g.T.Shape.reads g.T.Shape.holds _ _ v (ap (λ w. w.buffered) fresh) (ap (λ w. w.limit) fresh) u))) c.read_limited-answer.ensures.found

pub returns-clause-refused : goal.returns-clause-refused
returns-clause-refused g c =
    let fresh = c.unread-from.ensures.source ∙ c.new.ensures.window in
    if_refused c.read_limited-answer.result _ _ (λ e u. (
    let r = reader_refused_within c.args.limits.levels c.args.limits.bytes g.T.Shape.reads g.T.Shape.asks g.T.Shape.needs e _ _ (search rules) (fresh_itself _ _ _ _ fresh) u in
    reader_known c.args.limits.levels c.args.limits.bytes g.T.Shape.reads g.T.Shape.asks e _ _ _ _ _ _ _ _ (ap (λ w. w.beyond) fresh) (search rules) (ap (λ w. w.failures) fresh) (search rules) r)) c.read_limited-answer.ensures.refused

pub returns-clause-kept : goal.returns-clause-kept
returns-clause-kept g c =
    let fresh = c.unread-from.ensures.source ∙ c.new.ensures.window in
    if_ok _ _ c.read_limited-answer.result (λ v u. none_counted c.args.limits.levels g.T.Shape.reads g.T.Shape.holds v _ _ _ _ (ap (λ w. w.failures) fresh) (search rules) u.whole) c.read_limited-answer.ensures.found

pub returns-clause-head : goal.returns-clause-head
returns-clause-head g c =
    let fresh = c.unread-from.ensures.source ∙ c.new.ensures.window in
    if_refused c.read_limited-answer.result _ _ (λ e u memory. reader_head _ _ _ _ fresh (u memory)) c.read_limited-answer.ensures.head
