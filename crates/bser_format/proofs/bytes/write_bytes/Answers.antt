use Rattle.std.proofs.Common.{◌≡◌, List, Bool, true, false, ℕ, cond, codes, sym, ap, ◌∙◌}
use Rattle.std.proofs.Output.{has_written_of_eq}
use Rattle.std.proofs.lemmas.Bool.{false_from_ne_true}
use Rattle.std.proofs.lemmas.Str.{IsUtf8-from_is_utf8, is_utf8-from_IsUtf8}
use Rattle.std.specs.Str.{is_utf8}
use Rattle.bser_format.specs.QuotedText.{quoted_text}
use Rattle.bser_format.specs.MarkedText.{marked_text, bytes_text}
use Rattle.bser_format.proofs.bytes.write_bytes.Goals as goal

-- what is printed, once it is known whether the bytes are UTF-8
printed : (bs : List ℕ) (utf8 : Bool) → is_utf8 bs ≡ utf8 → cond utf8 (quoted_text bs) (marked_text (codes "$bytes") bs) ≡ bytes_text bs
printed bs utf8 e = ap (λ (b : Bool). cond b (quoted_text bs) (marked_text (codes "$bytes") bs)) (sym e)

pub returns-in-Ok : goal.returns-in-Ok
returns-in-Ok g c =
    λ plain ok.
    let bytes = c.args.bytes.now in
    has_written_of_eq _ _ _ _ _
    (ap quoted_text c.in-Ok.ensures.cases.0 ∙ printed bytes true (is_utf8-from_IsUtf8 bytes c.in-Ok.ensures.cases.1))
    (c.write_quoted.ensures plain ok)

pub returns-in-Err : goal.returns-in-Err
returns-in-Err g c =
    λ plain ok.
    let bytes = c.args.bytes.now in
    has_written_of_eq _ _ _ _ _
    (printed bytes false (false_from_ne_true (is_utf8 bytes) (λ e. c.in-Err.ensures.cases.0 (IsUtf8-from_is_utf8 bytes e))))
    (c.write_marked.ensures plain ok)
