-- What was read of one field of a struct.
use Rattle.std.specs.Prelude.{Option}
use Rattle.bser_structs.specs.declared.slot.Required.{Required}
use Rattle.bser_structs.specs.declared.slot.Optional.{Optional}

-- the value of a field that has to be there, where it was read
abbrev pub required_value : {T : Type 0} → Required T → Option T
required_value v = v.value

-- the value of a field that may be absent, where it was read
abbrev pub optional_value : {T : Type 0} → Optional T → Option (Option T)
optional_value v = v.value
