-- A character is a text of one.
use Rattle.std.proofs.Common.{◌∙◌, ap, sym}
use Rattle.std.specs.Prelude.{chars}
use Rattle.std.proofs.lemmas.Result.{err_from_is_err_and}
use Rattle.bser_source.specs.Refs.{text_bytes}
use Rattle.bser_format.specs.ReadsScalars.{one_char}
use Rattle.bser_types.proofs.Chars.{char_refused, not_one_char}
use Rattle.bser_types.proofs.impls.strings.CharDeserialize.deserialize.Goals as goal

pub returns-in_err-text-clause-refused : goal.returns-in_err-text-clause-refused
returns-in_err-text-clause-refused g c =
    rw (err_from_is_err_and c.from_residual.result c.from_residual.ensures.1).1 (char_refused _ c.args.from.now.state c.read_text.new.self.state c.in_err-text.ensures.refused)

pub returns-clause-refused : goal.returns-clause-refused
returns-clause-refused g c =
    not_one_char (text_bytes g.L.Text.LendingText.text) _ c.args.from.now.state c.read_text.new.self.state _ c.in_ok-text.text c.in_ok-text.ensures.found
    (ap (λ b. one_char (chars b)) (sym c.get_ref.ensures) ∙ sym c.in-None.ensures) c.refuse_text.ensures.reason c.refuse_text.ensures.state
