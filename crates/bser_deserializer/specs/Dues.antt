-- What is expected, with the keys of the innermost open template.
use Rattle.std.specs.Prelude.{ℕ, zero, suc, List, [], ◌∷◌}
use Rattle.bser_format.specs.Expected as expected
use Rattle.bser_format.specs.Expected.{node_due, key_due, field_due, name_due, row_due, nothing_due}
use Rattle.bser_deserializer.specs.declared.due.Due.{Due}
use Rattle.bser_deserializer.specs.declared.due.Due.TheVariants.{Nothing, Node, Key, Field, Name, Row}

-- the key at this place
abbrev pub name_at : ℕ → List (List ℕ) → expected.Due
name_at n [] = nothing_due
name_at zero (k ∷ ks) = name_due k
name_at (suc n) (k ∷ ks) = name_at n ks

-- what is expected, where these are the keys and the next of them is at this place
abbrev pub due_of : List (List ℕ) → ℕ → Due → expected.Due
due_of ks place Nothing = nothing_due
due_of ks place Node = node_due
due_of ks place Key = key_due
due_of ks place Field = field_due
due_of ks place Name = name_at place ks
due_of ks place Row = row_due ks

-- a value is expected, or a field
abbrev pub IsValueDue : expected.Due → Type 0
IsValueDue node_due = Unit {0}
IsValueDue field_due = Unit {0}
IsValueDue _ = ⊥

-- what is expected begins with a tag
abbrev pub IsTagged : expected.Due → Type 0
IsTagged node_due = Unit {0}
IsTagged key_due = Unit {0}
IsTagged field_due = Unit {0}
IsTagged _ = ⊥
