-- The length that a head tells.
use Rattle.std.proofs.Common.{ℕ, ◌+◌, ◌∙◌, rules, arith, inr}
use Rattle.std.specs.Prelude.{nat_abs}
use Rattle.std.specs.Int.{w64}
use mir.Val.{SFits}
use Rattle.std.proofs.lemmas.Int.{ints, to_z-of_z}
use Rattle.bser_messages.proofs.Lengths.{each_length, told_length, told_great}
use Rattle.bser_messages.proofs.length.message_length.Goals as goal

pub returns-then-length-clause-refused : goal.returns-then-length-clause-refused
returns-then-length-clause-refused c =
    let start_fits : SFits w64 c.in-Ok.info.start = search rules in
    let len_fits : SFits w64 c.in-Ok.info.len = search rules in
    let start = to_z-of_z w64 c.in-Ok.info.start start_fits in
    let len = to_z-of_z w64 c.in-Ok.info.len len_fits in
    let n : ℕ = nat_abs c.in-Ok.info.start + nat_abs c.in-Ok.info.len in
    inr (told_great c.args.bytes.now _ _ _ _ _ n _ (c.new-2.ensures.window ∙ c.new.ensures) c.in-Ok.ensures.ok c.in-Ok.ensures.start (omega (arith, ints, c.in-Ok.ensures.ok.value, c.in-Ok.ensures.start))
    (omega (arith, ints, start, len, c.in-Ok.ensures.ok.value, c.in-Ok.ensures.start, c.if-length.true)) c.de_custom.ensures)

pub returns-in-Ok-clause-whole : goal.returns-in-Ok-clause-whole
returns-in-Ok-clause-whole c =
    let start_fits : SFits w64 c.in-Ok.info.start = search rules in
    let len_fits : SFits w64 c.in-Ok.info.len = search rules in
    let start = to_z-of_z w64 c.in-Ok.info.start start_fits in
    let len = to_z-of_z w64 c.in-Ok.info.len len_fits in
    told_length c.args.bytes.now _ _ _ _ _ _ (c.new-2.ensures.window ∙ c.new.ensures) c.in-Ok.ensures.ok c.in-Ok.ensures.start (omega (arith, ints, start, len, c.in-Ok.ensures.ok.value, c.in-Ok.ensures.start))

pub returns-in-Ok-clause-each : goal.returns-in-Ok-clause-each
returns-in-Ok-clause-each c =
    let start_fits : SFits w64 c.in-Ok.info.start = search rules in
    let len_fits : SFits w64 c.in-Ok.info.len = search rules in
    let start = to_z-of_z w64 c.in-Ok.info.start start_fits in
    let len = to_z-of_z w64 c.in-Ok.info.len len_fits in
    each_length c.args.bytes.now _ (told_length c.args.bytes.now _ _ _ _ _ _ (c.new-2.ensures.window ∙ c.new.ensures) c.in-Ok.ensures.ok c.in-Ok.ensures.start (omega (arith, ints, start, len, c.in-Ok.ensures.ok.value, c.in-Ok.ensures.start)))
