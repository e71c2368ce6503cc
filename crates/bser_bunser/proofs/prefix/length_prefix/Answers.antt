use Rattle.std.proofs.Common.{◌≡◌, take, subst, sym, arith, rules}
use Rattle.std.specs.Prelude.{pos, nat_abs}
use Rattle.std.specs.Int.{w64}
use mir.Val.{SFits, to_z, of_z}
use Rattle.std.proofs.lemmas.Int.{ints, to_z-of_z}
use Rattle.bser_format.specs.Grammar.{SpellsInteger}
use Rattle.bser_bunser.proofs.Ints.{negative_int}
use Rattle.bser_bunser.proofs.prefix.length_prefix.Goals as goal

pub returns-then-value-lt0 : goal.returns-then-value-lt0
returns-then-value-lt0 c =
    negative_int c.in-Found.value c.in-Found.len c.args.bytes.now (λ n p. omega (arith, ints, p, c.if-value-lt0.true)) c.in-Found.ensures.0 c.in-Found.ensures.1

pub returns-else-value-lt0 : goal.returns-else-value-lt0
returns-else-value-lt0 c =
    let fits : SFits w64 c.in-Found.value = search rules in
    let back : to_z w64 (of_z w64 c.in-Found.value) ≡ c.in-Found.value = to_z-of_z w64 c.in-Found.value fits in
    let same : pos (nat_abs (to_z w64 (of_z w64 c.in-Found.value))) ≡ c.in-Found.value = omega (arith, ints, back, c.if-value-lt0.false) in
    (c.in-Found.ensures.0, subst (λ z. SpellsInteger z (take c.in-Found.len c.args.bytes.now)) (sym same) c.in-Found.ensures.1)
