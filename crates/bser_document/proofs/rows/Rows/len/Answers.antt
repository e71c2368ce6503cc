-- There is a row for each that is read.
use Rattle.bser_document.proofs.Fields.{rows_left}
use Rattle.bser_document.proofs.rows.Rows.len.Goals as goal

pub returns : goal.returns
returns c = rows_left c.args.self.now
