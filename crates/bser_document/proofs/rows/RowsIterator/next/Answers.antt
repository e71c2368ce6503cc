-- The next row, and those behind it.
use Rattle.std.proofs.Common.{refl}
use Rattle.bser_document.proofs.Fields.{next_row}
use Rattle.bser_document.proofs.rows.RowsIterator.next.Goals as goal

pub returns-clause-steps : goal.returns-clause-steps
returns-clause-steps c = next_row c.args.self.now c.behind_all-self.result _ refl c.if-self-eq0.false c.behind_all-self.ensures
