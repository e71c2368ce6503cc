-- An item that has to be there.
use Rattle.std.specs.Prelude.{◌≡◌, ◌⊎◌, false, Option}
use Rattle.bser_format.specs.Content.{Meaning}
use Rattle.bser_format.specs.declared.errors.Error.{Error}
use Rattle.bser_format.specs.declared.errors.Complaint.TheVariants.{TooFewItems}
use Rattle.bser_format.specs.Named.{complain}
use Rattle.bser_deserializer.specs.State.{State, refused}
use Rattle.bser_deserializer.specs.Reading.{Asking, Needs}
use Rattle.bser_deserializer.specs.Parts.{items_left}
use Rattle.bser_deserializer.specs.Access.{OpenItems, RefusesItem}

-- no item is left where one has to be, and no call failed before
pub record LacksItem (e : Error) (old : OpenItems) (new : State) : Type 0 where
  pub working : old.state.source.failed ≡ false
  pub name : e ≡ complain TooFewItems
  pub counted : items_left old.wanted ≡ 0
  pub state : new ≡ refused old.state

-- the item gives an error, or is not there
abbrev pub RefusesRequired : (reads : Meaning) → Option (Asking reads) → Needs → Error → OpenItems → State → Type 0
RefusesRequired reads asks needs e old new = RefusesItem reads asks needs e old new ⊎ LacksItem e old new
