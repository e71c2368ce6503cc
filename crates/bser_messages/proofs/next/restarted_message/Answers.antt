-- The next message of the reader below a source.
use Rattle.std.proofs.Common.{rules, ap, ◌∙◌}
use Rattle.bser_deserializer.proofs.Openings.{if_ok}
use Rattle.bser_messages.proofs.Sources.{if_refused}
use Rattle.bser_messages.proofs.Nexts.{given_known, next_known}
use Rattle.bser_messages.proofs.next.restarted_message.Goals as goal

pub returns-clause-found : goal.returns-clause-found
returns-clause-found g c =
    let begun = ap (λ w. w.beyond) c.unread-from.ensures.source ∙ ap (λ r. g.S.Source.remaining r.now.reader) c.new.ensures ∙ ap g.S.Source.remaining c.restart.ensures.reader in
    if_ok _ _ c.read_next-answer.result (λ v u. given_known c.args.limits.levels c.args.limits.bytes g.T.Shape.reads g.T.Shape.holds _ _ _ _ v begun (search rules) u) c.read_next-answer.ensures.found

pub returns-clause-refused : goal.returns-clause-refused
returns-clause-refused g c =
    let begun = ap (λ w. w.beyond) c.unread-from.ensures.source ∙ ap (λ r. g.S.Source.remaining r.now.reader) c.new.ensures ∙ ap g.S.Source.remaining c.restart.ensures.reader in
    let before = ap (λ w. w.failures) c.unread-from.ensures.source ∙ ap (λ r. g.S.Source.failures r.now.reader) c.new.ensures ∙ ap g.S.Source.failures c.restart.ensures.reader in
    if_refused c.read_next-answer.result _ _ (λ e u. next_known c.args.limits.levels c.args.limits.bytes g.T.Shape.reads g.T.Shape.asks e _ _ _ _ _ _ _ _ begun (search rules) before (search rules) u) c.read_next-answer.ensures.refused
