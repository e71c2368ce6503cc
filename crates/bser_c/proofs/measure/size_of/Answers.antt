-- Two words more, or nothing more.
use Rattle.std.proofs.Common.{rules, arith, ◌<◌, ◌+◌, ◌*◌, length, sym, subst, ◌∙◌}
use Rattle.bser_c.proofs.Steps.{BeginsSize, size_empty, size_more, size_stops, size_all}
use Rattle.bser_c.proofs.measure.size_of.Goals as goal

pub loop-i-init : goal.loop-i-init
loop-i-init c = size_empty c.args.strings.now c.args.words.now

pub loop-i-preserved : goal.loop-i-preserved
loop-i-preserved c =
    let h : 2 * c.loop-i.i + 1 < length c.args.words.now = search rules in
    let more = size_more c.args.strings.now c.args.words.now (2 * c.loop-i.i) c.loop-i.size c.in-Some.part c.saturating_add-size.result c.loop-i.invariant h (sym c.size_of_part.ensures ∙ c.in-Some.is) c.saturating_add-size.ensures in
    subst (λ k. BeginsSize c.args.strings.now c.args.words.now k c.saturating_add-size.result) (omega arith) more

pub returns-clause-told : goal.returns-clause-told
returns-clause-told c = size_all c.args.strings.now c.args.words.now (2 * c.loop-i.i) c.loop-i.size c.loop-i.invariant (search rules)

pub returns-in-None-clause-there : goal.returns-in-None-clause-there
returns-in-None-clause-there c =
    let h : 2 * c.loop-i.i + 1 < length c.args.words.now = search rules in
    size_stops c.args.strings.now c.args.words.now (2 * c.loop-i.i) c.loop-i.size c.loop-i.invariant h (sym c.size_of_part.ensures ∙ c.in-None.is)
