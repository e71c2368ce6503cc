-- The field at a place begins where it was found.
use Rattle.bser_document.proofs.Orders.{field_is, no_field_is}
use Rattle.bser_document.proofs.order.RowFields.get.Goals as goal

pub returns-in-Some : goal.returns-in-Some
returns-in-Some c m h = field_is c.args.self.now.document m c.args.self.now.places.items c.args.place c.in-Some.at.now (rw c.deref.ensures.value at c.in-Some.ensures.lookup.3.0) (rw c.deref.ensures.value at c.in-Some.ensures.lookup.1) h

pub returns-in-None : goal.returns-in-None
returns-in-None c m h = no_field_is c.args.self.now.document m c.args.self.now.places.items c.args.place (rw c.deref.ensures.value at c.in-None.ensures.lookup.3) h
