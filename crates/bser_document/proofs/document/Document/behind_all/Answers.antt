-- A field is passed by each step.
use Rattle.std.proofs.Common.{◌≡◌, ◌+◌, ◌-◌, suc, arith}
use Rattle.bser_document.proofs.Walks.{one_passed, none_left}
use Rattle.bser_document.proofs.document.Document.behind_all.Goals as goal

pub loop-preserved : goal.loop-preserved
loop-preserved c fs h e =
    let less : c.args.count - c.loop.counter ≡ suc (c.args.count - (c.loop.counter + 1)) = omega (arith, c.loop-test.true) in
    one_passed c.args.self.now c.args.at fs c.loop.behind c.behind-behind.result (c.args.count - c.loop.counter) (c.args.count - (c.loop.counter + 1)) less c.behind-behind.ensures (c.loop.invariant fs h e)

pub returns : goal.returns
returns c fs h e =
    let none : c.args.count - c.loop.counter ≡ 0 = omega (arith, c.loop-test.false) in
    none_left c.args.self.now c.args.at fs c.loop.behind (c.args.count - c.loop.counter) none (c.loop.invariant fs h e)
