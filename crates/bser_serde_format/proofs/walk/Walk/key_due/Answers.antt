-- The values behind the key are read on.
use Rattle.std.proofs.Common.{refl}
use Rattle.bser_serde_format.proofs.Onward.{within_inner, let_go}
use Rattle.bser_serde_format.proofs.walk.Walk.key_due.Goals as goal

pub returns : goal.returns
returns c = within_inner c.args.self.now _ refl refl (λ z l. let_go c.args.self.now.inner c.args.self.now.rest.now z c.requires l)
