use Rattle.std.proofs.Common.{subst, sym, Some}
use Rattle.bser_value.specs.Shows.{Builds}
use Rattle.bser_value.specs.declared.value.Value as value
use Rattle.bser_value.proofs.Parts.{builds_object}
use Rattle.bser_value.proofs.building.Building.into_value.Goals as goal

pub returns-in-Object : goal.returns-in-Object
returns-in-Object c = subst (λ b. Builds b (Some (value.Object c.in-Object.entries))) (sym c.in-Object.is) (builds_object c.in-Object.entries c.in-Object.key)
