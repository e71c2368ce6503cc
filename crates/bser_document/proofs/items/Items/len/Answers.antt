-- There is an item for each that is read.
use Rattle.bser_document.proofs.Walks.{count_left}
use Rattle.bser_document.proofs.items.Items.len.Goals as goal

pub returns : goal.returns
returns c = count_left c.args.self.now
