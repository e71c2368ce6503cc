-- The key is gone past.
use Rattle.std.proofs.Common.{refl, arith}
use Rattle.bser_serde_format.proofs.Onward.{within_inner, let_go}
use Rattle.bser_serde_format.proofs.walk.Walk.skip.Goals as goal

pub returns : goal.returns
returns c =
    let a = c.args.self.now in
    within_inner a _ refl refl (λ z l. let_go a.inner a.rest.now z (omega arith) l)
