use Rattle.std.proofs.Common.{rules, arith, ◌≡◌, ℕ, ◌%◌, ◌^◌, true, false, sym, ap, ◌∙◌, refl, ◌∷◌, [], FitsSigned, w8, w16, w32, w64}
use Rattle.std.specs.Int.{to_le_bytes, cast_unsigned}
use Rattle.std.proofs.lemmas.Int.{to_z-of_z}
use Rattle.bser_format.specs.Canonical.{is_within}
use Rattle.bser_format.proofs.Canon.{within_fits}
use Rattle.bser_ser.proofs.Spelling.{least_int8, least_int16, least_int32, least_int64, two_set, tag_set}
use Rattle.bser_ser.proofs.integer.spell.Goals as goal

pub returns-then-is_within-clause-spelled : goal.returns-then-is_within-clause-spelled
returns-then-is_within-clause-spelled c =
    let fits : FitsSigned w64 c.args.v = search rules in
    let a : is_within (2 ^ 7) c.args.v ≡ true = sym (simp to_z-of_z at c.is_within.ensures) ∙ c.if-is_within.true in
    let narrow : FitsSigned w8 c.args.v = within_fits w8 c.args.v a in
    let byte = simp to_z-of_z at c.cast_unsigned.ensures in
    let low : c.cast_unsigned.result ≡ cast_unsigned w8 c.args.v % 256 = omega (arith, byte, c.cast_unsigned.type_inv) in
    two_set c.args.buf.now 3 c.cast_unsigned.result (omega arith) ∙ ap (λ (x : ℕ). 3 ∷ x ∷ []) low ∙ sym (least_int8 c.args.v a)

pub returns-then-is_within-2-clause-spelled : goal.returns-then-is_within-2-clause-spelled
returns-then-is_within-2-clause-spelled c =
    let fits : FitsSigned w64 c.args.v = search rules in
    let a : is_within (2 ^ 7) c.args.v ≡ false = sym (simp to_z-of_z at c.is_within.ensures) ∙ c.if-is_within.false in
    let b : is_within (2 ^ 15) c.args.v ≡ true = sym (simp to_z-of_z at c.is_within-2.ensures) ∙ c.if-is_within-2.true in
    let narrow : FitsSigned w16 c.args.v = within_fits w16 c.args.v b in
    tag_set c.args.buf.now c.write_i16.new.buf (to_le_bytes w16 (cast_unsigned w16 c.args.v)) _ _ 4 2 3 (omega arith) (simp to_z-of_z at c.write_i16.ensures) refl refl ∙ sym (least_int16 c.args.v a b)

pub returns-then-is_within-3-clause-spelled : goal.returns-then-is_within-3-clause-spelled
returns-then-is_within-3-clause-spelled c =
    let fits : FitsSigned w64 c.args.v = search rules in
    let a : is_within (2 ^ 7) c.args.v ≡ false = sym (simp to_z-of_z at c.is_within.ensures) ∙ c.if-is_within.false in
    let b : is_within (2 ^ 15) c.args.v ≡ false = sym (simp to_z-of_z at c.is_within-2.ensures) ∙ c.if-is_within-2.false in
    let d : is_within (2 ^ 31) c.args.v ≡ true = sym (simp to_z-of_z at c.is_within-3.ensures) ∙ c.if-is_within-3.true in
    let narrow : FitsSigned w32 c.args.v = within_fits w32 c.args.v d in
    tag_set c.args.buf.now c.write_i32.new.buf (to_le_bytes w32 (cast_unsigned w32 c.args.v)) _ _ 5 4 5 (omega arith) (simp to_z-of_z at c.write_i32.ensures) refl refl ∙ sym (least_int32 c.args.v a b d)

pub returns-clause-spelled : goal.returns-clause-spelled
returns-clause-spelled c =
    let fits : FitsSigned w64 c.args.v = search rules in
    let a : is_within (2 ^ 7) c.args.v ≡ false = sym (simp to_z-of_z at c.is_within.ensures) ∙ c.if-is_within.false in
    let b : is_within (2 ^ 15) c.args.v ≡ false = sym (simp to_z-of_z at c.is_within-2.ensures) ∙ c.if-is_within-2.false in
    let d : is_within (2 ^ 31) c.args.v ≡ false = sym (simp to_z-of_z at c.is_within-3.ensures) ∙ c.if-is_within-3.false in
    tag_set c.args.buf.now c.write_i64.new.buf (to_le_bytes w64 (cast_unsigned w64 c.args.v)) _ _ 6 8 9 (omega arith) (simp to_z-of_z at c.write_i64.ensures) refl refl ∙ sym (least_int64 c.args.v a b d)
