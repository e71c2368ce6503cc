-- The last of equal keys.
use Rattle.bser_document.proofs.Looks.{found_in, found_nowhere}
use Rattle.bser_document.proofs.item.Item.get.Goals as goal

pub returns-in-Some : goal.returns-in-Some
returns-in-Some c u h = found_in c.args.key.now u c.in-Some.entries c.last.result (c.in-Some.ensures u h) c.last.ensures

pub returns-in-None : goal.returns-in-None
returns-in-None c u h = found_nowhere c.args.key.now u (c.in-None.ensures u h)
