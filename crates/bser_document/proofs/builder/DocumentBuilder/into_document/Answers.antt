-- What was told is a whole value.
use Rattle.bser_document.proofs.Whole.{known}
use Rattle.bser_document.proofs.builder.DocumentBuilder.into_document.Goals as goal

pub invariant_of-result : goal.invariant_of-result
invariant_of-result c =
    let k = known c.args.self c.requires in
    record {
      tells = ∣ k.tells ∣₁;
      within = ∣ k.within ∣₁;
      total = k.total;
      ends = ∣ k.ends ∣₁;
      rows = ∣ k.rows ∣₁;
      reads = ∣ k.reads ∣₁;
      values = ∣ k.values ∣₁;
    }
