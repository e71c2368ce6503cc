-- A container's node is changed at its place.
use Rattle.std.proofs.Common.{◌≡◌, ◌≤◌, ◌<◌, ◌-◌, ◌^◌, ◌++◌, get_or, length, [], ◌∷◌, rules, subst, ap, ◌∙◌, slice_set, arith}
use Rattle.bser_document.specs.declared.document.DocumentNode.{DocumentNode}
use Rattle.bser_document.specs.declared.document.DocumentNode.TheVariants as nodes
use Rattle.bser_document.specs.DocumentView.{SameEvents, end_of, with_end}
use Rattle.bser_document.proofs.Kept.{same_set, close_at, close_past}
use Rattle.bser_document.proofs.builder.DocumentBuilder.close.Goals as goal

pub returns-in-Some-clause-nodes : goal.returns-in-Some-clause-nodes
returns-in-Some-clause-nodes c =
    let at = c.args.self.now.innermost in
    let pushed : c.push.new.self.items ≡ c.args.self.now.nodes.items ++ nodes.Close ∷ [] = search rules in
    subst (λ l. SameEvents l (slice_set c.push.new.self.items at c.ended-closed.result.0)) pushed (same_set c.push.new.self.items at c.ended-closed.result.0 λ d.
    let e : c.in-Some.node.now ≡ get_or c.push.new.self.items at d = search rules in
    subst (λ n. SameEvents (n ∷ []) (c.ended-closed.result.0 ∷ [])) e c.ended-closed.ensures.same)

pub returns-in-Some-clause-ends : goal.returns-in-Some-clause-ends
returns-in-Some-clause-ends c =
    let at = c.args.self.now.innermost in
    let pushed : c.push.new.self.items ≡ c.args.self.now.nodes.items ++ nodes.Close ∷ [] = search rules in
    let last : c.len-last.result ≡ length c.push.new.self.items = search rules in
    let inside : at < length c.push.new.self.items = search rules in
    let few : length c.push.new.self.items < 2 ^ 63 = search rules in
    let e : (d : DocumentNode) → c.in-Some.node.now ≡ get_or c.push.new.self.items at d = λ d. search rules in
    close_at c.args.self.now.nodes.items c.push.new.self.items at c.ended-closed.result.1 c.len-last.result c.ended-closed.result.0 pushed last (omega (arith, inside, few))
    (λ d. c.ended-closed.ensures.ends ∙ ap (λ n. with_end c.len-last.result (end_of n)) (e d)) (λ d k is. c.ended-closed.ensures.outer k (ap end_of (e d) ∙ is))

pub returns-in_default-clause-ends : goal.returns-in_default-clause-ends
returns-in_default-clause-ends c =
    let pushed : c.push.new.self.items ≡ c.args.self.now.nodes.items ++ nodes.Close ∷ [] = search rules in
    let past : length c.push.new.self.items ≤ c.args.self.now.innermost = search rules in
    close_past c.args.self.now.nodes.items c.push.new.self.items c.args.self.now.innermost pushed past
