-- What `{}` writes of a `Value`.
use Rattle.std.specs.Prelude.{ℕ, List, Option}
use Rattle.bser_value.specs.declared.value.Value.{Value}
use Rattle.bser_value.specs.TreeText.{IsTextOf, tree_text}
use Rattle.bser_value.specs.ValueView.{tree_of}

-- a text of a value is one of its tree
abbrev pub IsValueText : Value → List ℕ → Type 0
IsValueText v = IsTextOf (tree_of v)

-- the one text of a value that holds no finite real
abbrev pub displayed : Value → Option (List ℕ)
displayed v = tree_text (tree_of v)
