-- One place more, or nothing is read on.
use Rattle.std.proofs.Common.{sym, ap, subst}
use Rattle.bser_serde_format.specs.declared.walk.Walk.{Walk}
use Rattle.bser_serde_format.specs.Kept.{StaysOn}
use Rattle.bser_serde_format.proofs.Staying.{on_steps, marks_on}
use Rattle.bser_serde_format.proofs.kept.KeptWalk.put_mark.Goals as goal

pub invariant_of-self : goal.invariant_of-self
invariant_of-self g c =
    let s = c.self.inside in
    let e = c.keep_open.ensures in
    let p = c.place-place.ensures in
    subst (StaysOn g.K.KnownBody.bytes g.K.KnownBody.levels _) (sym c.in-Ok.ensures.items)
    (marks_on g.K.KnownBody.bytes g.K.KnownBody.levels s.walk _ s.saved.items _ p.rest p.inner p.outer p.floor (ap (λ (w : Walk). w.rest.now) e) (ap (λ (w : Walk). w.inner) e)
    (ap (λ (w : Walk). w.outer.items) e) (ap (λ (w : Walk). w.floor) e) c.self.invariant)

pub invariant_of-self-in-Err : goal.invariant_of-self-in-Err
invariant_of-self-in-Err g c =
    let s = c.self.inside in
    subst (StaysOn g.K.KnownBody.bytes g.K.KnownBody.levels _) (sym c.in-Err.ensures.items) (on_steps g.K.KnownBody.bytes g.K.KnownBody.levels s.walk _ s.saved.items c.stop.ensures c.self.invariant)
