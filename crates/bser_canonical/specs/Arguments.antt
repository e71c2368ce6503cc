-- What the arguments ask for.
use Rattle.std.specs.Prelude.{◌≡◌, ℕ, List, [], ◌∷◌, map, Option, Some, None, Bool, String, string_bytes, codes, bytes_eq, unwrap_or, if◌then◌else◌}
use Rattle.std.specs.declared.alloc.Global.{Global}
use Rattle.bser_format.specs.Tree.{Tree}
use Rattle.bser_format.specs.Compact.{fold_templates}
use Rattle.bser_canonical.specs.Canon.{canonical}
use Rattle.bser_canonical.specs.declared.program.MessageForm.{MessageForm}
use Rattle.bser_canonical.specs.declared.program.MessageForm.TheVariants.{Canonical, Compact}

-- a tree in this form
abbrev pub in_form : MessageForm → Tree → Tree
in_form Canonical = canonical
in_form Compact = fold_templates

-- the word that asks for the compact form
abbrev pub asks_compact : List ℕ → Bool
asks_compact word = bytes_eq word (codes "--compact")

-- the canonical form without words, the compact one for its word alone, and else none
abbrev pub form_of : List (List ℕ) → Option MessageForm
form_of [] = Some Canonical
form_of (word ∷ []) = if asks_compact word then Some Compact else None
form_of _ = None

-- the bytes of each argument
abbrev pub words : List (String Global) → List (List ℕ)
words args = map string_bytes args

-- an argument that is not known, or one too many
abbrev pub IsUnknown : List (String Global) → Type 0
IsUnknown args = form_of (words args) ≡ None

-- a tree in the form that is asked for
abbrev pub asked : List (String Global) → Tree → Tree
asked args = in_form (unwrap_or (form_of (words args)) Canonical)
