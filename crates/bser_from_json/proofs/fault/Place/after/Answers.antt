-- Line by line.
use Rattle.std.proofs.Common.{rules, ◌≡◌, ◌+◌, ◌-◌, ◌∙◌, sym, ap, take, drop, length, min, arith}
use Rattle.std.proofs.lemmas.Grind.{common_steps}
use Rattle.std.specs.List.{count_by}
use Rattle.bser_from_json.specs.Lines.{begins_character}
use Rattle.bser_from_json.proofs.Lines.{all_passed, line_passed}
use Rattle.bser_from_json.proofs.fault.Place.after.Goals as goal

pub loop-end-preserved : goal.loop-end-preserved
loop-end-preserved c =
    let found = c.in-Some.ensures in
    let xs = c.loop-end.rest.now in
    let ys = c.split_at.result.1.now in
    let behind : ys ≡ drop c.in-Some.end xs = search rules in
    let left : take (length ys - 1) (drop 1 ys) ≡ drop (c.in-Some.end + 1) xs = grind (arith, common_steps, behind) in
    record {
      passed = c.loop-end.invariant.passed ∙ line_passed xs (take (length ys - 1) (drop 1 ys)) c.in-Some.end c.loop-end.place c.saturating_add.result c.loop-end.invariant.fits found.0 found.1 left c.saturating_add.ensures;
      fits = omega arith;
    }

pub returns : goal.returns
returns c =
    let column : c.saturating_add-2.result ≡ min (c.loop-end.place.column + count_by begins_character c.loop-end.rest.now) 18446744073709551615 = c.saturating_add-2.ensures ∙ ap (λ n. min (c.loop-end.place.column + n) 18446744073709551615) c.characters.ensures in
    sym (c.loop-end.invariant.passed ∙ all_passed c.loop-end.rest.now c.loop-end.place c.saturating_add-2.result c.loop-end.invariant.fits c.in_default.ensures column)
