use Rattle.std.proofs.Common.{refl}
use Rattle.bser_value.proofs.Parts.{keys_turn}
use Rattle.bser_value.proofs.table.Table.put_key.Goals as goal

pub returns : goal.returns
returns c = keys_turn c.args.key.now c.args.self.now _ c.in_ok-put_place.ensures c.in-Some.ensures.1 refl refl
