-- The items are counted.
use Rattle.bser_value.specs.Contents.{as_array}
use Rattle.bser_document.proofs.Walks.{counted, none_counted}
use Rattle.bser_document.proofs.item.Item.len.Goals as goal

pub returns-in-Some : goal.returns-in-Some
returns-in-Some c u h = counted (as_array u) c.in-Some.items c.len.result (c.in-Some.ensures u h) c.len.ensures

pub returns-in-None : goal.returns-in-None
returns-in-None c u h = none_counted (as_array u) (c.in-None.ensures u h)
