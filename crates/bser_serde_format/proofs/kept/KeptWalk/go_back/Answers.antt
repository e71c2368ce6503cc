-- Back at a place, or nothing is read on.
use Rattle.std.proofs.Common.{◌≡◌, ◌<◌, suc, length, get_or, rules, sym, subst, ◌∙◌, ap, take, arith}
use Rattle.bser_serde_format.specs.Kept.{StaysOn}
use Rattle.bser_serde_format.proofs.Staying.{on_steps, back_on}
use Rattle.bser_serde_format.proofs.kept.KeptWalk.go_back.Goals as goal

pub invariant_of-self : goal.invariant_of-self
invariant_of-self g c =
    let s = c.self.inside in
    let found = c.in-Some.ensures.lookup in
    let all : c.deref.result.now ≡ s.saved.items = search rules in
    let at : c.args.mark < length s.saved.items = subst (λ xs. c.args.mark < length xs) all found.3.0 in
    let is : c.in-Some.saved.now ≡ get_or s.saved.items c.args.mark c.in-Some.saved.now =
    subst (λ xs. c.in-Some.saved.now ≡ get_or xs c.args.mark c.in-Some.saved.now) all found.1 in
    let b = c.go_back.ensures in
    let long = s.saved.ok.0 in
    let next : c.saturating_add.result ≡ suc c.args.mark = omega (arith, at, long, c.saturating_add.ensures) in
    subst (StaysOn g.K.KnownBody.bytes g.K.KnownBody.levels _) (sym (c.truncate.ensures.items ∙ ap (λ k. take k s.saved.items) next))
    (back_on g.K.KnownBody.bytes g.K.KnownBody.levels c.args.mark s.walk _ s.saved.items c.in-Some.saved.now at (sym is) b.rest b.inner b.outer b.floor c.self.invariant)

pub invariant_of-self-in-None : goal.invariant_of-self-in-None
invariant_of-self-in-None g c =
    let s = c.self.inside in
    on_steps g.K.KnownBody.bytes g.K.KnownBody.levels s.walk _ s.saved.items c.stop.ensures c.self.invariant
