-- The next item, and those behind it.
use Rattle.std.proofs.Common.{refl}
use Rattle.bser_document.proofs.Keyed.{row_first_of, rows_behind_first}
use Rattle.bser_document.proofs.Walks.{next_is}
use Rattle.bser_document.proofs.items.ItemsIterator.next.Goals as goal

pub invariant_of-item : goal.invariant_of-item
invariant_of-item c = record { row = row_first_of c.args.self.now c.if-self-eq0.false }

pub invariant_of-self : goal.invariant_of-self
invariant_of-self c = record { rows = rows_behind_first c.args.self.now c.behind-self.result _ refl c.if-self-eq0.false c.behind-self.ensures }

pub returns-clause-steps : goal.returns-clause-steps
returns-clause-steps c = next_is c.args.self.now c.behind-self.result _ _ _ refl c.if-self-eq0.false c.behind-self.ensures
