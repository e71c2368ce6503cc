use Rattle.bser_bunser.proofs.Refusals.{short_of}
use Rattle.bser_bunser.proofs.Names.{short_names}
use Rattle.bser_bunser.proofs.bunser.Bunser.gather.Goals as goal

pub returns-in-Err-clause-names : goal.returns-in-Err-clause-names
returns-in-Err-clause-names g c =
    rw (← c.self.view_is, c.refuse_cause.ensures.reason) (short_names c.args.len _ _ _ (short_of c.args.len c.in-Err.cause _ _ c.in-Err.ensures.err))
