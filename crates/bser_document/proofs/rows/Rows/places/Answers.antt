-- Each key is put in with its place.
use Rattle.bser_document.proofs.Orders.{one_place, all_places}
use Rattle.bser_document.proofs.rows.Rows.places.Goals as goal

pub loop-place-preserved : goal.loop-place-preserved
loop-place-preserved c ks ms h =
    one_place c.args.self c.loop-place.places.entries c.insert.new.self.entries c.loop-place.place c.place-at.result c.key.result c.loop-place-test.true c.place-at.ensures c.key.ensures c.in_ok-insert.ensures.entries ks ms h (c.loop-place.invariant ks ms h)

pub returns : goal.returns
returns c ks ms h = all_places c.args.self c.loop-place.places.entries c.loop-place.place c.loop-place-test.false ks ms h (c.loop-place.invariant ks ms h)
