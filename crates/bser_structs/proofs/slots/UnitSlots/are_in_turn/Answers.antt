use Rattle.std.proofs.Common.{ap, length, arith}
use Rattle.std.proofs.lemmas.Bool.{eqb-true}
use Rattle.std.proofs.lemmas.List.{length-map}
use Rattle.bser_structs.proofs.slots.UnitSlots.are_in_turn.Goals as goal

pub returns : goal.returns
returns g c =
    λ yes. (tt, omega (arith, length-map c.keys_of.result.now.items g.L.Lending.kept, ap length c.keys_of.ensures, c.len.ensures, c.keys_of.result.now.ok, eqb-true c.len.result c.args.place yes))
