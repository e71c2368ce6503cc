-- What stands for the part is put behind what was.
use Rattle.std.proofs.Common.{refl}
use Rattle.bser_json.proofs.LaidOut.{adds_still, part_put}
use Rattle.bser_json.proofs.printing.Printing.put_part.Goals as goal

pub returns : goal.returns
returns g c =
    let part = c.args.part.now in
    adds_still g.W.Write.contents c.write_much.result part c.args.self.now _ c.write_much.new.self
    (part_put g.W.Write.contents part c.args.self.now _ refl refl c.in_ok-put_escaped.ensures refl) c.write_much.ensures
