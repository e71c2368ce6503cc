-- The first width that holds an integer is its least.
use Rattle.std.proofs.Common.{rules, ◌≡◌, ◌^◌, true, false, length, sym, ap, ◌∙◌, FitsSigned, w64}
use Rattle.std.proofs.lemmas.Int.{to_z-of_z}
use Rattle.bser_format.specs.Canonical.{is_within}
use Rattle.bser_ser.proofs.Spelling.{least_int8, least_int16, least_int32, least_int64}
use Rattle.bser_c.proofs.measure.size_of_integer.Goals as goal

pub returns-then-is_within-clause-size : goal.returns-then-is_within-clause-size
returns-then-is_within-clause-size c =
    let fits : FitsSigned w64 c.args.v = search rules in
    let a : is_within (2 ^ 7) c.args.v ≡ true = sym (simp to_z-of_z at c.is_within.ensures) ∙ c.if-is_within.true in
    sym (ap length (least_int8 c.args.v a))

pub returns-then-is_within-2-clause-size : goal.returns-then-is_within-2-clause-size
returns-then-is_within-2-clause-size c =
    let fits : FitsSigned w64 c.args.v = search rules in
    let a : is_within (2 ^ 7) c.args.v ≡ false = sym (simp to_z-of_z at c.is_within.ensures) ∙ c.if-is_within.false in
    let b : is_within (2 ^ 15) c.args.v ≡ true = sym (simp to_z-of_z at c.is_within-else-is_within.ensures) ∙ c.if-is_within-2.true in
    sym (ap length (least_int16 c.args.v a b))

pub returns-then-is_within-3-clause-size : goal.returns-then-is_within-3-clause-size
returns-then-is_within-3-clause-size c =
    let fits : FitsSigned w64 c.args.v = search rules in
    let a : is_within (2 ^ 7) c.args.v ≡ false = sym (simp to_z-of_z at c.is_within.ensures) ∙ c.if-is_within.false in
    let b : is_within (2 ^ 15) c.args.v ≡ false = sym (simp to_z-of_z at c.is_within-else-is_within.ensures) ∙ c.if-is_within-2.false in
    let d : is_within (2 ^ 31) c.args.v ≡ true = sym (simp to_z-of_z at c.is_within-else-is_within-2.ensures) ∙ c.if-is_within-3.true in
    sym (ap length (least_int32 c.args.v a b d))

pub returns-else-is_within-3-clause-size : goal.returns-else-is_within-3-clause-size
returns-else-is_within-3-clause-size c =
    let fits : FitsSigned w64 c.args.v = search rules in
    let a : is_within (2 ^ 7) c.args.v ≡ false = sym (simp to_z-of_z at c.is_within.ensures) ∙ c.if-is_within.false in
    let b : is_within (2 ^ 15) c.args.v ≡ false = sym (simp to_z-of_z at c.is_within-else-is_within.ensures) ∙ c.if-is_within-2.false in
    let d : is_within (2 ^ 31) c.args.v ≡ false = sym (simp to_z-of_z at c.is_within-else-is_within-2.ensures) ∙ c.if-is_within-3.false in
    sym (ap length (least_int64 c.args.v a b d))
