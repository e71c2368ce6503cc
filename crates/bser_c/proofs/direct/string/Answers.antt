-- A text, or a byte string.
use Rattle.std.proofs.Common.{subst}
use Rattle.bser_bunser.specs.Tokens.{SpellsToken}
use Rattle.bser_bunser.specs.declared.prefix.Token.TheVariants as tokens
use Rattle.bser_c.specs.Direct.{Stands}
use Rattle.bser_c.proofs.direct.string.Goals as goal

pub text-requires : goal.text-requires
text-requires g c = subst (λ b. Stands (SpellsToken (tokens.Str b c.args.len)) c.args.bytes.now c.args.start c.args.at) c.if-is_text.true c.requires

pub byte_string-requires : goal.byte_string-requires
byte_string-requires g c = subst (λ b. Stands (SpellsToken (tokens.Str b c.args.len)) c.args.bytes.now c.args.start c.args.at) c.if-is_text.false c.requires
