-- The first width that holds an integer is its least.
use Rattle.std.proofs.Common.{rules, ◌≡◌, ◌∷◌, ◌^◌, List, ℕ, true, false, sym, ap, subst, ◌∙◌, FitsSigned, w16, w32, w64}
use Rattle.std.specs.Int.{to_le_bytes, cast_unsigned}
use Rattle.std.proofs.lemmas.Int.{to_z-of_z}
use Rattle.bser_format.specs.Canonical.{is_within}
use Rattle.bser_format.proofs.Canon.{within_fits}
use Rattle.bser_ser.proofs.Spelling.{least_int16, least_int32, least_int64}
use Rattle.bser_c.specs.Fronts.{Puts}
use Rattle.bser_c.proofs.front.Front.put_wide.Goals as goal

pub returns-then-is_within : goal.returns-then-is_within
returns-then-is_within c =
    let fits : FitsSigned w64 c.args.v = search rules in
    let b : is_within (2 ^ 15) c.args.v ≡ true = sym (simp to_z-of_z at c.is_within.ensures) ∙ c.if-is_within.true in
    let narrow : FitsSigned w16 c.args.v = within_fits w16 c.args.v b in
    let bytes : c.to_le_bytes.result ≡ to_le_bytes w16 (cast_unsigned w16 c.args.v) = simp to_z-of_z at c.to_le_bytes.ensures in
    subst (λ (xs : List ℕ). Puts c.args.self.now c.put_tagged.new.self xs c.put_tagged.result)
    (ap (λ (xs : List ℕ). 4 ∷ xs) bytes ∙ sym (least_int16 c.args.v c.requires b)) c.put_tagged.ensures

pub returns-then-is_within-2 : goal.returns-then-is_within-2
returns-then-is_within-2 c =
    let fits : FitsSigned w64 c.args.v = search rules in
    let b : is_within (2 ^ 15) c.args.v ≡ false = sym (simp to_z-of_z at c.is_within.ensures) ∙ c.if-is_within.false in
    let d : is_within (2 ^ 31) c.args.v ≡ true = sym (simp to_z-of_z at c.is_within-2.ensures) ∙ c.if-is_within-2.true in
    let narrow : FitsSigned w32 c.args.v = within_fits w32 c.args.v d in
    let bytes : c.to_le_bytes-then-is_within-2.result ≡ to_le_bytes w32 (cast_unsigned w32 c.args.v) = simp to_z-of_z at c.to_le_bytes-then-is_within-2.ensures in
    subst (λ (xs : List ℕ). Puts c.args.self.now c.put_tagged-then-is_within-2.new.self xs c.put_tagged-then-is_within-2.result)
    (ap (λ (xs : List ℕ). 5 ∷ xs) bytes ∙ sym (least_int32 c.args.v c.requires b d)) c.put_tagged-then-is_within-2.ensures

pub returns : goal.returns
returns c =
    let fits : FitsSigned w64 c.args.v = search rules in
    let b : is_within (2 ^ 15) c.args.v ≡ false = sym (simp to_z-of_z at c.is_within.ensures) ∙ c.if-is_within.false in
    let d : is_within (2 ^ 31) c.args.v ≡ false = sym (simp to_z-of_z at c.is_within-2.ensures) ∙ c.if-is_within-2.false in
    let bytes : c.to_le_bytes-2.result ≡ to_le_bytes w64 (cast_unsigned w64 c.args.v) = simp to_z-of_z at c.to_le_bytes-2.ensures in
    subst (λ (xs : List ℕ). Puts c.args.self.now c.put_tagged-2.new.self xs c.put_tagged-2.result)
    (ap (λ (xs : List ℕ). 6 ∷ xs) bytes ∙ sym (least_int64 c.args.v c.requires b d)) c.put_tagged-2.ensures
