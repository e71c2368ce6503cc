-- There is an entry for each that is spelled.
use Rattle.bser_document.proofs.Looks.{pairs_left}
use Rattle.bser_document.proofs.entries.Entries.len.Goals as goal

pub returns : goal.returns
returns c = pairs_left c.args.self.now
