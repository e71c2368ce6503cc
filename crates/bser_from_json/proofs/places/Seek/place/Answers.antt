-- A byte after the other is passed.
use Rattle.std.proofs.Common.{◌≡◌, drop, length, sym, ◌∙◌, arith}
use Rattle.std.proofs.lemmas.List.{drop_all}
use Rattle.bser_from_json.proofs.Seeking.{drop_next, place_end, place_here, place_later}
use Rattle.bser_from_json.proofs.places.Seek.place.Goals as goal

pub returns-in-None-clause-place : goal.returns-in-None-clause-place
returns-in-None-clause-place c =
    let text = c.args.text.now in
    let at = c.loop-at.at in
    sym (c.loop-at.invariant ∙ place_here c.loop-at.seek at _ (drop at text) _ (drop_next text at c.loop-at-test.true) c.in-None.ensures)

pub loop-at-preserved : goal.loop-at-preserved
loop-at-preserved c =
    let text = c.args.text.now in
    let at = c.loop-at.at in
    c.loop-at.invariant ∙ place_later c.loop-at.seek c.in-Some.next at _ (drop at text) _ (drop_next text at c.loop-at-test.true) c.in-Some.ensures

pub returns-clause-place : goal.returns-clause-place
returns-clause-place c =
    let text = c.args.text.now in
    let at = c.loop-at.at in
    let whole : at ≡ length text = omega (arith, c.loop-at-test.false, c.loop-at.auto.at-end) in
    sym (c.loop-at.invariant ∙ place_end c.loop-at.seek at (drop at text) (drop_all at text (omega (arith, whole))) ∙ whole)
