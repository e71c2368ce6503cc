-- Values that are gathered in pieces.
use Rattle.std.specs.Prelude.{List, [], ◌∷◌, ◌++◌, Vec}
use Rattle.std.specs.declared.alloc.Global.{Global}
use Rattle.bser_value.specs.declared.value.Value.{Value}
use Rattle.bser_value.specs.declared.gathered.Gathered.{Gathered}

-- the values of the pieces, in order
abbrev pub joined : List (Vec Value Global) → List Value
joined [] = []
joined (p ∷ ps) = p.items ++ joined ps

-- all values, in order
abbrev pub all_items : Gathered → List Value
all_items g = joined g.pieces.items ++ g.last.items
