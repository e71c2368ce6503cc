-- A row ends.
use Rattle.std.proofs.Common.{refl}
use Rattle.bser_serde_format.proofs.Onward.{within_inner}
use Rattle.bser_serde_format.proofs.Parts.{row_ended}
use Rattle.bser_serde_format.proofs.walk.Walk.entry_key.Goals as goal

pub returns-in-Row : goal.returns-in-Row
returns-in-Row c =
    let a = c.args.self.now in
    within_inner a _ refl refl (λ z l. row_ended a.inner a.rest.now z c.in-Row.is l)
