-- Bytes that are no text.
use Rattle.std.proofs.Common.{◌≡◌, false, ap, ◌∙◌}
use Rattle.std.proofs.lemmas.Bool.{false_from_ne_true}
use Rattle.std.proofs.lemmas.Str.{IsUtf8-from_is_utf8}
use Rattle.std.specs.Str.{is_utf8}
use Rattle.bser_from_json.specs.Lines.{place_in}
use Rattle.bser_from_json.specs.declared.fault.JsonError.TheVariants as errors
use Rattle.bser_from_json.specs.declared.fault.JsonFault.TheVariants as faults
use Rattle.bser_from_json.specs.declared.texts.TextError.TheVariants as failures
use Rattle.bser_from_json.proofs.texts.text_of.Goals as goal

pub returns-in-Err : goal.returns-in-Err
returns-in-Err c =
    let bytes = c.args.bytes.now in
    let no : is_utf8 bytes ≡ false = false_from_ne_true (is_utf8 bytes) (λ e. c.in-Err.ensures.cases.0 (IsUtf8-from_is_utf8 bytes e)) in
    (no, ap (λ p. failures.Json (errors.Text faults.NotUtf8 p)) (c.place_of.ensures ∙ ap (place_in bytes) (c.valid_up_to.ensures ∙ c.in-Err.ensures.valid_len)))
