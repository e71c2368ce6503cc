-- What is read as an object by one type, and as anything else by another.
use Rattle.std.specs.Prelude.{Bool, true, false, ◌==◌}
use Rattle.bser_format.specs.Tree.{object}
use Rattle.bser_format.specs.Content.{Meaning}
use Rattle.bser_format.specs.DueReaders.{Seen, tag, name, row, seen}
use Rattle.bser_format.specs.Asks.{Asks, by_sight}

-- an object by the first type, anything else by the second
abbrev pub reads_object_or : Meaning → Meaning → Meaning
reads_object_or O T (object es) = O (object es)
reads_object_or O T t = T t

-- an object, or a row
abbrev pub is_pairs : Seen → Bool
is_pairs (tag t) = t == 0x01
is_pairs (name k) = false
is_pairs (row ks) = true

-- at an object or a row what the first type asks for, else what the second does
abbrev pub asks_object_or : Asks → Asks → Asks
asks_object_or A B o n d b = by_sight is_pairs (A o n d) (B o n d) (seen o d b) b
