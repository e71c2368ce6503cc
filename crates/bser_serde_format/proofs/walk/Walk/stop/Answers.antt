-- Nothing is read on.
use Rattle.std.proofs.Common.{refl}
use Rattle.bser_serde_format.proofs.Parts.{stopped}
use Rattle.bser_serde_format.proofs.walk.Walk.stop.Goals as goal

pub returns : goal.returns
returns c = stopped c.args.self.now _ refl refl refl refl refl
