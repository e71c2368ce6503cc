use Rattle.std.proofs.Common.{List, ℕ, sym, ap, subst, ◌∙◌, codes}
use Rattle.bser_format.specs.MarkedText.{marked_text}
use Rattle.bser_format.specs.RealText.{bits_text, IsNumberTextOr}
use Rattle.bser_format.proofs.real.write_real.Goals as goal

-- there is a number, and so a text of it
pub returns-in-Some : goal.returns-in-Some
returns-in-Some g c plain ok =
    let w = c.write_number.ensures plain ok in (
      w.0,
      subst (λ o. IsNumberTextOr c.args.bits (bits_text c.args.bits) o w.0) (sym c.in-Some.is ∙ c.finite.ensures) w.1,
      w.2,
    )

-- there is no number, and so the bits are printed
pub returns-in-None : goal.returns-in-None
returns-in-None g c plain ok =
    let s = marked_text (codes "$real") c.to_be_bytes.result in (
      s,
      subst (λ o. IsNumberTextOr c.args.bits (bits_text c.args.bits) o s) (sym c.in-None.is ∙ c.finite.ensures) (ap (marked_text (codes "$real")) c.to_be_bytes.ensures),
      c.write_marked.ensures plain ok,
    )
