use Rattle.std.proofs.Common.{rules, subst, sym, take}
use Rattle.std.specs.Int.{w64}
use mir.Val.{SFits}
use Rattle.std.proofs.lemmas.Int.{to_z-of_z}
use Rattle.bser_format.specs.Grammar.{SpellsInteger}
use Rattle.bser_bunser.proofs.Tokens.{short_token}
use Rattle.bser_bunser.proofs.prefix.token_prefix.Goals as goal

pub returns-in-Found : goal.returns-in-Found
returns-in-Found c =
    let fits : SFits w64 c.in-Found.value = search rules in
    (c.in-Found.ensures.0, subst (λ z. SpellsInteger z (take c.in-Found.len c.args.bytes.now)) (sym (to_z-of_z w64 c.in-Found.value fits)) c.in-Found.ensures.1)

pub returns-in-Short : goal.returns-in-Short
returns-in-Short c = short_token c.in-Short.need c.args.bytes.now c.in-Short.ensures
