-- Nothing is put.
use Rattle.std.proofs.Common.{refl}
use Rattle.bser_json.proofs.LaidOut.{nothing_put}
use Rattle.bser_json.proofs.printing.Printing.new.Goals as goal

pub returns : goal.returns
returns g c = nothing_put g.W.Write.contents _ c.new.ensures.items refl
