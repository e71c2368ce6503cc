-- One item after the other.
use Rattle.std.proofs.Common.{◌≡◌, ◌+◌, ◌-◌, None, suc, sym, subst, arith, rules}
use Rattle.bser_document.specs.Pairs.{FindsItem}
use Rattle.bser_document.specs.Pointer.{item_there}
use Rattle.bser_document.proofs.Paths.{none_passed, one_passed, none_left, one_left, no_array_there}
use Rattle.bser_document.proofs.item.Item.at.Goals as goal

pub returns-in_err-rest : goal.returns-in_err-rest
returns-in_err-rest c u h =
    let none : c.from_residual.result ≡ None = search rules in
    subst (FindsItem (item_there c.args.index u)) (sym none) (no_array_there u c.args.index (c.in_err-rest.ensures u h))

pub loop-init : goal.loop-init
loop-init c u h = none_passed u c.args.index c.in_ok-rest.rest (c.args.index - 0) (omega arith) (c.in_ok-rest.ensures u h)

pub returns-in_err-next : goal.returns-in_err-next
returns-in_err-next c u h =
    let none : c.from_residual-in_err-next.result ≡ None = search rules in
    subst (FindsItem (item_there c.args.index u)) (sym none) (none_left u c.args.index c.loop.rest c.next.new.self (c.args.index - c.loop.counter) c.in_err-next.ensures.steps (c.loop.invariant u h))

pub loop-preserved : goal.loop-preserved
loop-preserved c u h =
    let less : c.args.index - c.loop.counter ≡ suc (c.args.index - (c.loop.counter + 1)) = omega (arith, c.loop-test.true) in
    one_passed u c.args.index c.loop.rest c.next.new.self c.in_ok-next.field-0 (c.args.index - c.loop.counter) (c.args.index - (c.loop.counter + 1)) less c.in_ok-next.ensures.steps (c.loop.invariant u h)

pub returns : goal.returns
returns c u h =
    let none : c.args.index - c.loop.counter ≡ 0 = omega (arith, c.loop-test.false) in
    one_left u c.args.index c.loop.rest c.next-2.new.self c.next-2.result (c.args.index - c.loop.counter) none c.next-2.ensures.steps (c.loop.invariant u h)
