-- The items have the keys of the first one, or one of them lacks them.
use Rattle.std.proofs.Common.{rules, ◌≤◌, true, false, length, sym, ◌∙◌}
use Rattle.bser_value.specs.CompactTexts.{names_of}
use Rattle.bser_value.proofs.Folding.{shared, one_lacks, none_lacks}
use Rattle.bser_value.proofs.template.shared_keys.Goals as goal

pub returns-then-not-is_object_of : goal.returns-then-not-is_object_of
returns-then-not-is_object_of c =
    let m = c.in-Object.first in
    let rest = c.in_ok-head.rest.now in
    let some : 1 ≤ length m.entries = search rules in
    let more : 1 ≤ length rest = search rules in
    let lacks = one_lacks (names_of m.entries) rest c.loop-item.item-index c.item-item.result c.loop-item-test.true c.item-item.is (sym c.is_object_of.ensures ∙ c.if-not-is_object_of.true) c.loop-item.invariant in
    sym (shared c.args.items.now rest c.in_ok-head.head.now m false c.in_ok-head.ensures.cases.0 c.in-Object.is some more lacks)

pub returns : goal.returns
returns c =
    let m = c.in-Object.first in
    let rest = c.in_ok-head.rest.now in
    let some : 1 ≤ length m.entries = search rules in
    let more : 1 ≤ length rest = search rules in
    let all = none_lacks (names_of m.entries) rest c.loop-item.item-index c.loop-item-test.false c.loop-item.invariant in
    sym (shared c.args.items.now rest c.in_ok-head.head.now m true c.in_ok-head.ensures.cases.0 c.in-Object.is some more all)
