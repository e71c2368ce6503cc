-- A row fewer is left.
use Rattle.std.proofs.Common.{refl}
use Rattle.bser_serde_format.proofs.Onward.{within_inner}
use Rattle.bser_serde_format.proofs.Parts.{row_gone}
use Rattle.bser_serde_format.proofs.walk.Walk.skip_row.Goals as goal

pub returns : goal.returns
returns c =
    let a = c.args.self.now in
    let r = c.is_at_row.ensures c.if-not-is_at_row.false in
    within_inner a _ refl refl (λ z l. row_gone a.inner _ _ a.rest.now _ z r.form r.none c.requires r.some refl refl c.in-Some.ensures l)
