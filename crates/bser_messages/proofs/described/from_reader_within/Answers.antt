-- A reader whose message was read, and one that is refused.
use Rattle.std.proofs.Common.{rules, ap, subst, ◌∙◌}
use Rattle.bser_messages.specs.Messages.{BeginWithHead}
use Rattle.bser_messages.proofs.Sources.{fresh_itself, reader_refused, reader_counted, none_counted, reader_head}
use Rattle.bser_messages.proofs.DescribedReaders.{reader_took}
use Rattle.bser_messages.proofs.described.from_reader_within.Goals as goal

pub returns-in-Ok-clause-found : goal.returns-in-Ok-clause-found
returns-in-Ok-clause-found g c =
    let fresh = c.unread-from.ensures.source ∙ c.new-2.ensures.window in
    reader_took c.args.limit g.T.Shape.reads g.T.Shape.holds c.in-Ok.value _ _ _ _ (fresh_itself _ _ _ _ fresh)
    (ap (λ w. w.beyond) fresh ∙ ap (λ r. g.S.Source.remaining r.now) c.new.ensures) (search rules) c.in-Ok.ensures.found

pub returns-in-Ok-clause-kept : goal.returns-in-Ok-clause-kept
returns-in-Ok-clause-kept g c =
    let fresh = c.unread-from.ensures.source ∙ c.new-2.ensures.window in
    none_counted c.args.limit g.T.Shape.reads g.T.Shape.holds c.in-Ok.value _ _ _ _
    (ap (λ w. w.failures) fresh ∙ ap (λ r. g.S.Source.failures r.now) c.new.ensures) (search rules) c.in-Ok.ensures.found

pub returns-in-Err-clause-refused : goal.returns-in-Err-clause-refused
returns-in-Err-clause-refused g c =
    let fresh = c.unread-from.ensures.source ∙ c.new-2.ensures.window in
    let r = reader_refused c.args.limit g.T.Shape.reads g.T.Shape.asks g.T.Shape.needs c.in-Err.cause _ _ (search rules) (fresh_itself _ _ _ _ fresh) c.in-Err.ensures.refused in
    rw c.describe.ensures.cause (reader_counted c.args.limit g.T.Shape.reads g.T.Shape.asks c.in-Err.cause _ _ _ _ _ _
    (ap (λ w. w.beyond) fresh ∙ ap (λ r. g.S.Source.remaining r.now) c.new.ensures) (ap (λ w. w.failures) fresh ∙ ap (λ r. g.S.Source.failures r.now) c.new.ensures) (search rules) r)

pub returns-in-Err-clause-head : goal.returns-in-Err-clause-head
returns-in-Err-clause-head g c =
    let fresh = c.unread-from.ensures.source ∙ c.new-2.ensures.window in
    rw c.describe.ensures.cause (λ memory. subst BeginWithHead (ap (λ r. g.S.Source.remaining r.now) c.new.ensures) (reader_head _ _ _ _ fresh (c.in-Err.ensures.head memory)))
