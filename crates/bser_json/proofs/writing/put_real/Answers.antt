-- The bits of no number are marked.
use Rattle.std.proofs.Common.{subst}
use Rattle.bser_from_json.specs.declared.meaning.Mark.TheVariants as marks
use Rattle.bser_json.specs.Said.{SaysFloat, SaysMarked, SaysReal}
use Rattle.bser_json.proofs.Saying.{more_said}
use Rattle.bser_json.proofs.writing.put_real.Goals as goal

pub returns-in-None : goal.returns-in-None
returns-in-None g c =
    let bits = c.args.bits in
    more_said g.W.Write.contents c.put_marked.result (SaysMarked marks.Real c.to_be_bytes.result) (SaysReal bits) c.args.out.now c.put_marked.new.out
    (λ ts h. subst (λ o. SaysFloat bits o ts) c.in-None.ensures (subst (λ xs. SaysMarked marks.Real xs ts) c.to_be_bytes.ensures h)) c.put_marked.ensures
