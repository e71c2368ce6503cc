-- A number that a byte holds takes two.
use Rattle.std.proofs.Common.{rules, arith, ◌≡◌, ◌∷◌, ◌%◌, ◌^◌, [], List, ℕ, true, sym, ap, subst, ◌∙◌, FitsSigned, w8, w64}
use Rattle.std.specs.Int.{cast_unsigned}
use Rattle.std.proofs.lemmas.Int.{to_z-of_z}
use Rattle.bser_format.specs.Canonical.{is_within}
use Rattle.bser_format.proofs.Canon.{within_fits}
use Rattle.bser_ser.proofs.Spelling.{least_int8}
use Rattle.bser_c.specs.Fronts.{Puts}
use Rattle.bser_c.proofs.front.Front.put_integer.Goals as goal

pub returns-then-is_within : goal.returns-then-is_within
returns-then-is_within c =
    let fits : FitsSigned w64 c.args.v = search rules in
    let a : is_within (2 ^ 7) c.args.v ≡ true = sym (simp to_z-of_z at c.is_within.ensures) ∙ c.if-is_within.true in
    let narrow : FitsSigned w8 c.args.v = within_fits w8 c.args.v a in
    let byte = simp to_z-of_z at c.cast_unsigned.ensures in
    let low : c.cast_unsigned.result ≡ cast_unsigned w8 c.args.v % 256 = omega (arith, byte, c.cast_unsigned.type_inv) in
    subst (λ (xs : List ℕ). Puts c.args.self.now c.put.new.self xs c.put.result)
    (ap (λ (x : ℕ). 3 ∷ x ∷ []) low ∙ sym (least_int8 c.args.v a)) c.put.ensures
