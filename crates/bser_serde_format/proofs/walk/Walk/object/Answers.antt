-- A row begins.
use Rattle.std.proofs.Common.{refl}
use Rattle.bser_serde_format.proofs.Onward.{within_inner}
use Rattle.bser_serde_format.proofs.Parts.{row_begun}
use Rattle.bser_serde_format.proofs.walk.Walk.object.Goals as goal

pub returns : goal.returns
returns c =
    let a = c.args.self.now in
    let r = c.is_at_row.ensures c.if-not-is_at_row.false in
    within_inner a _ refl refl (λ z l. row_begun a.inner _ _ a.rest.now z r.form r.none r.some refl refl l)
