use Rattle.std.proofs.Common.{◌≡◌, ◌<◌, true, false, refl, sym, subst, get_or, length, arith}
use Rattle.bser_format.specs.Grammar.{int8, int16, int32, int64}
use Rattle.bser_bunser.specs.Prefixes.{BitsPrefix}
use Rattle.bser_bunser.specs.Tokens.{IsTokenPrefix}
use Rattle.bser_bunser.specs.declared.prefix.Token.TheVariants as tokens
use Rattle.bser_bunser.proofs.Ints.{first_is, all_after}
use Rattle.bser_bunser.proofs.Tokens.{found_one, found_real, short_real, none_known}
use Rattle.bser_bunser.proofs.prefix.other_prefix.Goals as goal

pub returns-in-10 : goal.returns-in-10
returns-in-10 c =
    subst (IsTokenPrefix c.args.bytes.now) (sym c.single.ensures) (found_one 0x0a tokens.Null c.args.bytes.now c.requires.some c.in-10.is refl)

pub returns-in-8 : goal.returns-in-8
returns-in-8 c =
    subst (IsTokenPrefix c.args.bytes.now) (sym c.single-in-8.ensures) (found_one 0x08 (tokens.Bool true) c.args.bytes.now c.requires.some c.in-8.is refl)

pub returns-in-9 : goal.returns-in-9
returns-in-9 c =
    subst (IsTokenPrefix c.args.bytes.now) (sym c.single-in-9.ensures) (found_one 0x09 (tokens.Bool false) c.args.bytes.now c.requires.some c.in-9.is refl)

pub returns-in-12 : goal.returns-in-12
returns-in-12 c =
    subst (IsTokenPrefix c.args.bytes.now) (sym c.single-in-12.ensures) (found_one 0x0c tokens.Skip c.args.bytes.now c.requires.some c.in-12.is refl)

pub returns-in-11 : goal.returns-in-11
returns-in-11 c =
    subst (IsTokenPrefix c.args.bytes.now) (sym c.single-in-11.ensures) (found_one 0x0b tokens.Template c.args.bytes.now c.requires.some c.in-11.is refl)

pub returns-in-Some : goal.returns-in-Some
returns-in-Some c =
    found_real c.in-Some.bits c.args.bytes.now c.requires.some c.in-7.is (subst (λ l. BitsPrefix l c.in-Some.bits) (all_after c.args.bytes.now) c.in-Some.ensures)

pub returns-in-None : goal.returns-in-None
returns-in-None c =
    short_real c.args.bytes.now (first_is c.args.bytes.now 0x07 c.requires.some c.in-7.is) (subst (λ l. length l < 8) (all_after c.args.bytes.now) c.in-None.ensures)

pub returns-in_default : goal.returns-in_default
returns-in_default c =
    let x = get_or c.args.bytes.now 0 0 in
    let x3 : x ≡ 3 → ⊥ = λ e. c.requires.other int8 (sym e) in
    let x4 : x ≡ 4 → ⊥ = λ e. c.requires.other int16 (sym e) in
    let x5 : x ≡ 5 → ⊥ = λ e. c.requires.other int32 (sym e) in
    let x6 : x ≡ 6 → ⊥ = λ e. c.requires.other int64 (sym e) in
    let high : 13 < x = omega arith in
    let next = first_is c.args.bytes.now x c.requires.some refl in
    (none_known x c.args.bytes.now c.requires.some next high, next)
