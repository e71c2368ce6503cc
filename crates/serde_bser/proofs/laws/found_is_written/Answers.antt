use Rattle.bser_document.proofs.Found.{item_is, found_is}
use Rattle.serde_bser.proofs.laws.found_is_written.Goals as goal

pub returns : goal.returns
returns c = record { held = item_is; found = found_is }
