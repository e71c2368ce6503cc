-- What the readers of scalars and of keys answer.
use Rattle.std.specs.Prelude.{◌≡◌, ℕ, List, Result, Ok, Err}
use Rattle.std.specs.Borrow.{Bor}
use Rattle.bser_format.specs.Tree.{Tree}
use Rattle.bser_value.specs.ValueView.{tree_of}
use Rattle.bser_value.specs.declared.value.Value.{Value}
use Rattle.bser_from_json.specs.declared.fault.JsonFault.{JsonFault}

-- the value is what is made, or the fault
abbrev pub IsMade : Result Value JsonFault → Result Tree JsonFault → Type 0
IsMade (Ok v) made = made ≡ Ok (tree_of v)
IsMade (Err f) made = made ≡ Err f

-- the name is that of the key, or the fault
abbrev pub IsNamed : Result (Bor (List ℕ)) JsonFault → Result (List ℕ) JsonFault → Type 0
IsNamed (Ok k) name = name ≡ Ok k.now
IsNamed (Err f) name = name ≡ Err f
