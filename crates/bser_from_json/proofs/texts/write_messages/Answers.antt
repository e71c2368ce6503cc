-- A message more is written, or why it is not.
use Rattle.std.proofs.Common.{inl, sym, subst}
use Rattle.bser_from_json.specs.Written.{WritesTexts}
use Rattle.bser_from_json.proofs.Writing.{left_by, no_more, nothing_appended, one_more}
use Rattle.bser_from_json.proofs.texts.write_messages.Goals.{then-advance+in-Ok, else-advance+else-has_ended+in_default+in_default-read}
use Rattle.bser_from_json.proofs.texts.write_messages.Goals as goal

pub returns-in-Err-clause-refused : goal.returns-in-Err-clause-refused
returns-in-Err-clause-refused g c =
    let contents = g.W.Write.contents in
    left_by c.args.writing c.text.result.now c.place.result (contents c.args.out.now) (contents c.loop.out) (contents c.write_text.new.out) c.in-Err.error c.within.result c.loop.invariant c.in-Err.ensures.refused c.within.ensures

pub returns-in-Err-flush-clause-refused : goal.returns-in-Err-flush-clause-refused
returns-in-Err-flush-clause-refused g c =
    let contents = g.W.Write.contents in
    (contents c.loop.out, c.loop.invariant, inl (nothing_appended (contents c.loop.out) (contents c.flush.new.self) c.flush.ensures.bytes))

pub loop-preserved : goal.loop-preserved
loop-preserved g c =
    let contents = g.W.Write.contents in
    let start = contents c.args.out.now in
    let old = contents c.loop.out in
    elim c.if-advance.branch [
      | then-advance+in-Ok w ↦ subst (λ o. WritesTexts c.args.writing start (contents o)) (sym w.out-is) (one_more c.args.writing w.text.result.now start old (contents w.write_text.new.out) c.loop.invariant w.in-Ok.ensures.written)
      | else-advance+else-has_ended+in_default+in_default-read w ↦ subst (λ o. WritesTexts c.args.writing start (contents o)) (sym w.out-is) (no_more c.args.writing start old (contents w.flush.new.self) c.loop.invariant (nothing_appended old (contents w.flush.new.self) w.flush.ensures.bytes))
    ]
