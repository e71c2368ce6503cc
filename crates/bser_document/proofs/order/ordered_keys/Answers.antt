-- Each key of the map is put behind the others.
use Rattle.std.proofs.Common.{rules, ap, sym, ◌∙◌, ◌∷◌, [], ◌++◌, append_assoc, append-nil}
use Rattle.bser_document.specs.Order.{shown}
use Rattle.bser_document.proofs.order.ordered_keys.Goals as goal

pub loop-key-preserved : goal.loop-key-preserved
loop-key-preserved c = ap (λ l. l ++ c.next.new.self) c.in_ok-push.ensures.items ∙ append_assoc c.loop-key.order.items ((c.in-Some.key.now, c.in-Some.place.now) ∷ []) c.next.new.self ∙ ap (λ l. c.loop-key.order.items ++ l) (sym c.in-Some.ensures.steps) ∙ c.loop-key.invariant

pub returns : goal.returns
returns c ks ms h = ap shown (sym (append-nil c.loop-key.order.items) ∙ ap (λ l. c.loop-key.order.items ++ l) (sym (search rules)) ∙ c.loop-key.invariant ∙ search rules) ∙ c.in_ok-places.ensures ks ms h
