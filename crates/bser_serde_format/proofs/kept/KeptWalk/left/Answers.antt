-- Nothing remains.
use Rattle.std.proofs.Common.{sym, subst}
use Rattle.bser_serde_format.specs.Kept.{ValueBefore}
use Rattle.bser_serde_format.proofs.Staying.{value_before}
use Rattle.bser_serde_format.proofs.kept.KeptWalk.left.Goals as goal

pub returns-then-is_done : goal.returns-then-is_done
returns-then-is_done g c =
    let s = c.self.inside in
    subst (ValueBefore g.K.KnownBody.bytes g.K.KnownBody.levels) (sym c.left.ensures) (value_before g.K.KnownBody.bytes g.K.KnownBody.levels s.walk s.saved.items c.self.invariant (c.is_done.ensures c.if-is_done.true))
