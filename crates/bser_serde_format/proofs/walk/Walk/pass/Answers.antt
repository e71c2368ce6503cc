-- A value fewer is left.
use Rattle.std.proofs.Common.{refl}
use Rattle.bser_serde_format.proofs.Onward.{one_fewer, within_inner}
use Rattle.bser_serde_format.proofs.walk.Walk.pass.Goals as goal

pub returns : goal.returns
returns c =
    within_inner c.args.self.now _ refl refl
    (λ z l. one_fewer c.args.self.now.inner _ c.args.self.now.rest.now c.args.rest.now z c.requires.some refl c.requires.one l)
