use Rattle.std.proofs.Common.{[], refl}
use Rattle.bser_structs.proofs.slots.UnitSlots.read_in_turn.Goals as goal

pub returns-clause-found : goal.returns-clause-found
returns-clause-found g c = λ names place keys. (([], refl, tt), refl)
