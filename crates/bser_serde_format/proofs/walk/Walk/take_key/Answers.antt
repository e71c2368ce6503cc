-- The value of a key comes.
use Rattle.std.proofs.Common.{refl}
use Rattle.bser_format.specs.declared.errors.Kind.TheVariants.{MapKey}
use Rattle.bser_serde_format.proofs.Onward.{within_inner}
use Rattle.bser_serde_format.proofs.Parts.{key_gone}
use Rattle.bser_serde_format.proofs.walk.Walk.take_key.Goals as goal

pub returns : goal.returns
returns c =
    within_inner c.args.self.now _ refl refl
    (λ z l. key_gone c.args.self.now.inner _ c.args.self.now.rest.now _ z c.requires.object c.requires.none.0 c.requires.none.1 c.requires.some refl (_, c.in-Some.ensures.read MapKey) l)
