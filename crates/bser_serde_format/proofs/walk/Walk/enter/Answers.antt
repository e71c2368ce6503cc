-- The container stands before what is left around it.
use Rattle.std.proofs.Common.{refl}
use Rattle.bser_serde_format.proofs.Onward.{one_fewer, within_inner, opens}
use Rattle.bser_serde_format.proofs.walk.Walk.enter.Goals as goal

pub returns-in-Ok : goal.returns-in-Ok
returns-in-Ok c =
    let a = c.args.self.now in
    opens a _ _ refl c.in-Ok.ensures.items (λ m z l h. one_fewer a.inner _ a.rest.now m z c.requires.some refl (c.requires.inside m l) h)

pub returns-in-Err : goal.returns-in-Err
returns-in-Err c = within_inner c.args.self.now _ refl c.in-Err.ensures.items (λ z l. l)
