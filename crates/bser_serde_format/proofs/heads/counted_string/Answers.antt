-- What follows a string behind its tag.
use Rattle.bser_format.specs.declared.errors.Complaint.TheVariants.{NegativeLength}
use Rattle.bser_events.proofs.Binds.{each_some}
use Rattle.bser_serde_format.proofs.Pieces.{string_cut}
use Rattle.bser_serde_format.proofs.heads.counted_string.Goals as goal

pub returns : goal.returns
returns c =
    each_some _ _ c.string.result c.string.ensures (λ rest cut. string_cut c.args.is_text _ c.args.bytes.now _ rest.now (c.in_ok-len.ensures NegativeLength) cut)
