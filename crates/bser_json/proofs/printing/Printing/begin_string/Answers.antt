-- The start of a string is put behind its comma and its gap.
use Rattle.std.proofs.Common.{refl}
use Rattle.bser_json.proofs.LaidOut.{string_begun}
use Rattle.bser_json.proofs.printing.Printing.begin_string.Goals as goal

pub returns : goal.returns
returns g c = string_begun g.W.Write.contents c.args.self.now _ c.put_gap.new.text.items refl refl c.in_ok-put_gap.ensures c.in_ok-extend_from_slice.ensures.items refl
