use Rattle.std.proofs.Common.{rules}
use Rattle.bser_bunser.proofs.Refusals.{short_of}
use Rattle.bser_bunser.proofs.Names.{short_names}
use Rattle.bser_bunser.proofs.bunser.Bunser.fill_slowly.Goals as goal

pub returns-in-Err-clause-refused : goal.returns-in-Err-clause-refused
returns-in-Err-clause-refused g c =
    let short = short_of c.args.n c.in-Err.cause _ _ c.in-Err.ensures.err in
    rw (← c.self.view_is, c.refuse_cause.ensures.reason, c.refuse_cause.ensures.state)
    (record { err = short; names = short_names c.args.n _ _ _ short; memory = search rules })
