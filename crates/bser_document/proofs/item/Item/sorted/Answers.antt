-- The entries are put in order where there are some.
use Rattle.bser_document.proofs.Sorts.{found_sorted, none_found}
use Rattle.bser_document.proofs.item.Item.sorted.Goals as goal

pub returns-in-None : goal.returns-in-None
returns-in-None c u h = none_found u (rw c.in-None.is at c.entries.ensures u h)

pub returns-in_ok-sorted-in-Some : goal.returns-in_ok-sorted-in-Some
returns-in_ok-sorted-in-Some c u h = found_sorted u c.in-Some.entries c.in_ok-sorted-in-Some.field-0 (rw c.in-Some.is at c.entries.ensures u h) c.in_ok-sorted-in-Some.ensures
