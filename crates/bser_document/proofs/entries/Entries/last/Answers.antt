-- The last of equal keys is kept.
use Rattle.std.proofs.Common.{◌≡◌, ◌+◌, ◌-◌, suc, Some, cond, ap, ◌∙◌, arith, rules}
use Rattle.bser_format.specs.SameTree.{same_bytes}
use Rattle.bser_document.specs.Pairs.{picked}
use Rattle.bser_document.proofs.Looks.{none_looked, one_looked, all_looked, none_left_to_look}
use Rattle.bser_document.proofs.entries.Entries.last.Goals as goal

pub loop-init : goal.loop-init
loop-init c m h = none_looked c.args.key.now c.args.self (c.args.self.left - 0) (omega arith) m h

pub loop-preserved : goal.loop-preserved
loop-preserved c m h =
    let less : c.args.self.left - c.loop.counter ≡ suc (c.args.self.left - (c.loop.counter + 1)) = omega (arith, c.loop-test.true) in
    let wanted : c.eq.result ≡ same_bytes c.args.key.now c.in-Some.entry.key.now = search rules in
    let is : c.pick-found.result ≡ picked c.args.key.now c.loop.found c.in-Some.entry = c.pick-found.ensures ∙ ap (λ b. cond b (Some c.in-Some.entry.value) c.loop.found) wanted in
    rw is (one_looked c.args.key.now m c.loop.rest c.next.new.self c.loop.found c.in-Some.entry (c.args.self.left - c.loop.counter) (c.args.self.left - (c.loop.counter + 1)) less c.in-Some.ensures.steps (c.loop.invariant m h))

pub returns-in-None : goal.returns-in-None
returns-in-None c m h = none_left_to_look c.args.key.now m c.loop.rest c.next.new.self c.loop.found (c.args.self.left - c.loop.counter) c.in-None.ensures.steps (c.loop.invariant m h)

pub returns : goal.returns
returns c m h =
    let none : c.args.self.left - c.loop.counter ≡ 0 = omega (arith, c.loop-test.false) in
    all_looked c.args.key.now m c.loop.rest c.loop.found (c.args.self.left - c.loop.counter) none (c.loop.invariant m h)
