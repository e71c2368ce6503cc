-- A token stands up to where what follows it begins.
use Rattle.bser_bunser.specs.Tokens.{SpellsToken}
use Rattle.bser_c.proofs.Whole.{stands_there}
use Rattle.bser_c.proofs.direct.token_at.Goals as goal

pub returns-in-Found : goal.returns-in-Found
returns-in-Found c = stands_there (SpellsToken c.in-Found.token) c.args.bytes.now c.args.at c.in-Found.len c.requires c.in-Found.ensures
