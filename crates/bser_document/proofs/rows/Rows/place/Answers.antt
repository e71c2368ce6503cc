-- The last of equal keys is kept.
use Rattle.bser_document.proofs.Fields.{one_placed, all_placed, place_leads}
use Rattle.bser_document.proofs.rows.Rows.place.Goals as goal

pub loop-place-preserved : goal.loop-place-preserved
loop-place-preserved c ks ms h =
    rw c.pick-found.ensures (one_placed c.args.self.now c.args.key.now c.loop-place.found c.loop-place.place c.place-at.result c.key.result.now c.loop-place-test.true c.place-at.ensures c.key.ensures ks ms h (c.loop-place.invariant ks ms h))

pub returns-clause-place : goal.returns-clause-place
returns-clause-place c ks ms h = all_placed c.args.self.now c.args.key.now c.loop-place.found c.loop-place.place c.loop-place-test.false ks ms h (c.loop-place.invariant ks ms h)

pub returns-clause-leads : goal.returns-clause-leads
returns-clause-leads c ks ms h =
    place_leads c.args.key.now ks c.loop-place.found (all_placed c.args.self.now c.args.key.now c.loop-place.found c.loop-place.place c.loop-place-test.false ks ms h (c.loop-place.invariant ks ms h))
