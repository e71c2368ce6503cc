-- The values behind the key are held.
use Rattle.std.proofs.Common.{refl, arith}
use Rattle.bser_serde_format.proofs.Onward.{within_inner, held_back}
use Rattle.bser_serde_format.proofs.walk.Walk.hold.Goals as goal

pub returns : goal.returns
returns c =
    let a = c.args.self.now in
    within_inner a _ refl refl (λ z l. held_back a.inner a.rest.now z (omega arith) l)
