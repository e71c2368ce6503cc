-- Each field is found behind the one before it.
use Rattle.std.proofs.Common.{refl, sym, subst, suc, arith, ◌≡◌, ◌-◌, ◌+◌}
use Rattle.bser_document.specs.Order.{AreAt}
use Rattle.bser_document.proofs.Orders.{none_noted, one_noted, all_noted}
use Rattle.bser_document.proofs.order.RowFields.read.Goals as goal

pub loop-init : goal.loop-init
loop-init c = record {
  document = refl;
  noted = λ ks m h. none_noted c.args.row ks m c.clear.new.self.items (c.args.row.len - 0) c.clear.ensures.items (omega arith) h;
}

pub loop-preserved : goal.loop-preserved
loop-preserved c =
    let less : c.args.row.len - c.loop.counter ≡ suc (c.args.row.len - (c.loop.counter + 1)) = omega (arith, c.loop-test.true) in
    record {
      document = c.loop.invariant.document;
      noted = λ ks m h. one_noted c.args.row.document m c.loop.self.places.items c.push.new.self.items c.loop.at c.behind-at.result (c.args.row.len - c.loop.counter) (c.args.row.len - (c.loop.counter + 1)) less c.in_ok-push.ensures.items c.behind-at.ensures (c.loop.invariant.noted ks m h);
    }

pub returns : goal.returns
returns c ks m h =
    let none : c.args.row.len - c.loop.counter ≡ 0 = omega (arith, c.loop-test.false) in
    subst (λ d. AreAt d m c.loop.self.places.items) (sym c.loop.invariant.document) (all_noted c.args.row.document m c.loop.self.places.items c.loop.at (c.args.row.len - c.loop.counter) none (c.loop.invariant.noted ks m h))
