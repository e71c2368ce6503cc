-- A template's head is put piece by piece.
use Rattle.std.proofs.Common.{rules, ◌++◌, [], flat_map, sym, subst, refl, ◌∙◌, Ok, string_bytes}
use Rattle.std.specs.List.{AllByRecursion}
use Rattle.std.specs.Int.{w64}
use Rattle.std.proofs.lemmas.Int.{to_z_pos}
use Rattle.std.proofs.lemmas.Result.{err_from_is_err_and}
use Rattle.bser_format.specs.Canonical.{least_integer, least_count, canonical_text, IsWritableText}
use Rattle.bser_format.specs.Pieces.{array_head, template_tag}
use Rattle.bser_ser.specs.Sent.{Sent, refusal_of}
use Rattle.bser_ser.proofs.Ends.{Stops-none}
use Rattle.bser_ser.proofs.AllBut.{AllBut, AllBut-start, AllBut-all, AllBut-more, AllBut-stops}
use Rattle.bser_value.specs.CompactTexts.{names_of, head_text}
use Rattle.bser_value.proofs.CompactPieces.{head_pieces, name_piece, count_piece}
use Rattle.bser_value.proofs.Writable.{names_few}
use Rattle.bser_value.proofs.template.add_template_head.Goals as goal

pub returns-in_err-add_seq-clause-put : goal.returns-in_err-add_seq-clause-put
returns-in_err-add_seq-clause-put g c =
    let p = err_from_is_err_and c.from_residual-in_err-add_seq.result c.from_residual-in_err-add_seq.ensures.1 in
    let es = c.args.first.now.entries in
    let rest = flat_map canonical_text (names_of es) ++ least_count c.args.rows in
    let begun = AllBut-start g.W.Sink (head_text es c.args.rows) template_tag (array_head c.len.result ++ rest) c.args.out.now c.add_template.new.self
    (head_pieces es c.args.rows c.len.result c.len.ensures.len) c.in_ok-add_template.ensures.0 in
    rw p.1 (AllBut-stops g.W.Sink g.met.W.Sink.took_both _ _ (array_head c.len.result) rest c.args.out.now c.add_template.new.self c.add_seq.new.self (refusal_of c.add_seq.new.self) begun refl
    (Stops-none g.W.Sink (Ok (array_head c.len.result)) c.add_template.new.self c.add_seq.new.self (refusal_of c.add_seq.new.self) c.in_err-add_seq.ensures.0 c.in_err-add_seq.ensures.1))

pub loop-key-init : goal.loop-key-init
loop-key-init g c =
    let es = c.args.first.now.entries in
    let rest = flat_map canonical_text (names_of es) ++ least_count c.args.rows in
    let begun = AllBut-start g.W.Sink (head_text es c.args.rows) template_tag (array_head c.len.result ++ rest) c.args.out.now c.add_template.new.self
    (head_pieces es c.args.rows c.len.result c.len.ensures.len) c.in_ok-add_template.ensures.0 in
    let whole = c.into_iter-key-iterator.ensures.into_iter_gives ∙ c.iter-key-items.ensures.rest in
    record {
      put = subst (λ l. AllBut g.W.Sink (head_text es c.args.rows) (flat_map canonical_text (names_of l) ++ least_count c.args.rows) c.args.out.now c.add_seq.new.self) (sym whole)
          (AllBut-more g.W.Sink g.met.W.Sink.took_both _ _ (array_head c.len.result) rest c.args.out.now c.add_template.new.self c.add_seq.new.self begun refl c.in_ok-add_seq.ensures.0);
      texts = subst (λ l. AllByRecursion IsWritableText (names_of l)) whole;
    }

pub loop-key-preserved : goal.loop-key-preserved
loop-key-preserved g c =
    record {
      put = AllBut-more g.W.Sink g.met.W.Sink.took_both _ _ (canonical_text (string_bytes c.in-Some.key.now)) _ c.args.out.now c.loop-key.out c.add_text.new.self c.loop-key.invariant.put
          (name_piece c.loop-key.key-iterator c.next.new.self (c.in-Some.key.now, c.in-Some.field-0-1.now) c.args.rows c.in-Some.ensures.steps) (rw c.as_str.ensures.value at c.in_ok-add_text.ensures.0);
      texts = λ h. c.loop-key.invariant.texts (subst (λ l. AllByRecursion IsWritableText (names_of l)) (sym c.in-Some.ensures.steps) (search rules, h));
    }

pub returns-in_err-add_text-clause-put : goal.returns-in_err-add_text-clause-put
returns-in_err-add_text-clause-put g c =
    let p = err_from_is_err_and c.from_residual-in_err-add_text.result c.from_residual-in_err-add_text.ensures.1 in
    let piece = canonical_text (string_bytes c.in-Some.key.now) in
    rw p.1 (AllBut-stops g.W.Sink g.met.W.Sink.took_both _ _ piece _ c.args.out.now c.loop-key.out c.add_text.new.self (refusal_of c.add_text.new.self) c.loop-key.invariant.put
    (name_piece c.loop-key.key-iterator c.next.new.self (c.in-Some.key.now, c.in-Some.field-0-1.now) c.args.rows c.in-Some.ensures.steps)
    (Stops-none g.W.Sink (Ok piece) c.loop-key.out c.add_text.new.self (refusal_of c.add_text.new.self) c.in_err-add_text.ensures.0 c.in_err-add_text.ensures.1))

pub returns-in_err-add_i64-clause-put : goal.returns-in_err-add_i64-clause-put
returns-in_err-add_i64-clause-put g c =
    let p = err_from_is_err_and c.from_residual-in_err-add_i64.result c.from_residual-in_err-add_i64.ensures.1 in
    let piece = least_count c.args.rows in
    rw p.1 (AllBut-stops g.W.Sink g.met.W.Sink.took_both _ _ piece [] c.args.out.now c.loop-key.out c.add_i64.new.self (refusal_of c.add_i64.new.self) c.loop-key.invariant.put
    (count_piece c.loop-key.key-iterator c.args.rows (search rules))
    (Stops-none g.W.Sink (Ok piece) c.loop-key.out c.add_i64.new.self (refusal_of c.add_i64.new.self) c.in_err-add_i64.ensures.0 c.in_err-add_i64.ensures.1))

pub returns-clause-put : goal.returns-clause-put
returns-clause-put g c =
    let put = subst (λ v. Sent g.W.Sink c.loop-key.out c.add_i64.new.self (least_integer v)) (to_z_pos w64 c.args.rows c.requires) c.in_ok-add_i64.ensures.0 in
    AllBut-all g.W.Sink _ [] c.args.out.now c.add_i64.new.self
    (AllBut-more g.W.Sink g.met.W.Sink.took_both _ _ (least_count c.args.rows) [] c.args.out.now c.loop-key.out c.add_i64.new.self c.loop-key.invariant.put
    (count_piece c.loop-key.key-iterator c.args.rows (search rules)) put) refl

pub returns-clause-few : goal.returns-clause-few
returns-clause-few g c = names_few c.args.first.now.entries c.iter-key-items.ensures.fits

pub returns-clause-texts : goal.returns-clause-texts
returns-clause-texts g c = c.loop-key.invariant.texts (search rules)
