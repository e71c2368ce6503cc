-- How an enum reads a tree.
use Rattle.std.specs.Prelude.{ℕ, suc, List, [], ◌∷◌, Option, Some, None, option_map, option_and_then, bytes_eq, cond}
use Rattle.std.specs.Str.{is_utf8}
use Rattle.bser_format.specs.Tree.{Tree, bytes, text, object, no_entries, entry}
use Rattle.bser_format.specs.Content.{Content, one, variant, Meaning}
use Rattle.bser_format.specs.ReadsScalars.{reads_unit}

pub data Payload : Type 0 where
  unit : Payload
  holds : Meaning → Payload

-- the first variant of that name, with its place counted from i
abbrev pub named : ℕ → List ℕ → List (List ℕ × Payload) → Option (ℕ × Payload)
named i s [] = None
named i s (v ∷ vs) = cond (bytes_eq v.0 s) (Some (i, v.1)) (named (suc i) s vs)

abbrev pub by_name : ℕ × Payload → Option Content
by_name (i, unit) = Some (variant i one)
by_name (i, holds T) = None

abbrev pub by_entry : Tree → ℕ × Payload → Option Content
by_entry t (i, unit) = option_map (variant i) (reads_unit t)
by_entry t (i, holds T) = option_map (variant i) (T t)

abbrev pub reads_enum : List (List ℕ × Payload) → Meaning
reads_enum vs (text s) = option_and_then by_name (named 0 s vs)
reads_enum vs (bytes s) = cond (is_utf8 s) (option_and_then by_name (named 0 s vs)) None
reads_enum vs (object (entry k t no_entries)) = cond (is_utf8 k) (option_and_then (by_entry t) (named 0 k vs)) None
reads_enum vs _ = None
