-- The quote is put behind the string.
use Rattle.std.proofs.Common.{refl}
use Rattle.bser_json.proofs.LaidOut.{string_ended}
use Rattle.bser_json.proofs.printing.Printing.end_string.Goals as goal

pub returns : goal.returns
returns g c = string_ended g.W.Write.contents c.args.self.now _ refl refl c.in_ok-extend_from_slice.ensures.items refl
