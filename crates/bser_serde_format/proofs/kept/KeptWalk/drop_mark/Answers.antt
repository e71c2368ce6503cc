-- The places before it are left.
use Rattle.std.proofs.Common.{◌≡◌, ◌<◌, length, get_or, rules, sym, ap, subst}
use Rattle.bser_serde_format.specs.declared.walk.Walk.{Walk}
use Rattle.bser_serde_format.specs.Kept.{StaysOn}
use Rattle.bser_serde_format.proofs.Staying.{drops_on}
use Rattle.bser_serde_format.proofs.kept.KeptWalk.drop_mark.Goals as goal

pub invariant_of-self : goal.invariant_of-self
invariant_of-self g c =
    let s = c.self.inside in
    let e = c.let_close.ensures in
    let found = c.in-Some.ensures.lookup in
    let all : c.deref.result.now ≡ s.saved.items = search rules in
    let at : c.args.mark < length s.saved.items = subst (λ xs. c.args.mark < length xs) all found.3.0 in
    let is : c.in-Some.saved.now ≡ get_or s.saved.items c.args.mark c.in-Some.saved.now =
    subst (λ xs. c.in-Some.saved.now ≡ get_or xs c.args.mark c.in-Some.saved.now) all found.1 in
    subst (StaysOn g.K.KnownBody.bytes g.K.KnownBody.levels _) (sym c.truncate.ensures.items)
    (drops_on g.K.KnownBody.bytes g.K.KnownBody.levels c.args.mark s.walk _ s.saved.items c.in-Some.saved.now at (sym is) (ap (λ (w : Walk). w.rest.now) e)
    (ap (λ (w : Walk). w.inner) e) (ap (λ (w : Walk). w.outer.items) e) (ap (λ (w : Walk). w.floor) e) c.self.invariant)
