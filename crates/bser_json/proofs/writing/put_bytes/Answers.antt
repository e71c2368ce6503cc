-- A string, where the bytes are UTF-8.
use Rattle.std.proofs.Common.{◌≡◌, List, [], ◌∷◌, codes, sym, ap, subst}
use Rattle.std.proofs.lemmas.Bool.{false_from_ne_true}
use Rattle.std.proofs.lemmas.Str.{IsUtf8-from_is_utf8, is_utf8-from_IsUtf8}
use Rattle.std.specs.Str.{is_utf8}
use Rattle.json.specs.Token as tokens
use Rattle.bser_from_json.specs.declared.meaning.Mark.TheVariants as marks
use Rattle.bser_json.specs.Said.{SaysBytes, SaysMarked, SaysString}
use Rattle.bser_json.proofs.Saying.{one_said, more_said}
use Rattle.bser_json.proofs.writing.put_bytes.Goals as goal

pub returns-in-Ok : goal.returns-in-Ok
returns-in-Ok g c =
    let bytes = c.args.bytes.now in
    let ts = tokens.string c.in-Ok.text.now ∷ [] in
    one_said g.W.Write.contents c.string.result (SaysBytes bytes) ts c.args.out.now c.string.new.self
    (subst (λ b. SaysString b bytes ts) (sym (is_utf8-from_IsUtf8 bytes c.in-Ok.ensures.cases.1)) (ap (λ s. tokens.string s ∷ []) c.in-Ok.ensures.cases.0)) c.string.ensures

pub returns-in-Err : goal.returns-in-Err
returns-in-Err g c =
    let bytes = c.args.bytes.now in
    more_said g.W.Write.contents c.put_marked.result (SaysMarked marks.Bytes bytes) (SaysBytes bytes) c.args.out.now c.put_marked.new.out
    (λ ts s. subst (λ b. SaysString b bytes ts) (sym (false_from_ne_true (is_utf8 bytes) (λ e. c.in-Err.ensures.cases.0 (IsUtf8-from_is_utf8 bytes e)))) s) c.put_marked.ensures
