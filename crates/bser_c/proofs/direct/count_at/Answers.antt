-- A count stands up to where what follows it begins.
use Rattle.bser_format.specs.Grammar.{SpellsCount}
use Rattle.bser_c.proofs.Whole.{stands_there}
use Rattle.bser_c.proofs.direct.count_at.Goals as goal

pub returns-in-Found : goal.returns-in-Found
returns-in-Found c = stands_there (SpellsCount c.in-Found.count) c.args.bytes.now c.args.at c.in-Found.len c.requires c.in-Found.ensures
