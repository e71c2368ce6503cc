-- What the plain reader gives, where the error does not matter.
use Rattle.std.specs.Prelude.{ℕ, List, Option, Some, None}
use Rattle.bser_format.specs.Tree.{Tree}
use Rattle.bser_format.specs.Named as named
use Rattle.bser_format.specs.Named.{Answer, reads, refuses, any}

-- what was read and what follows it, or nothing
abbrev pub forget : {X : Type 0} → Answer X → Option (X × List ℕ)
forget (reads x b) = Some (x, b)
forget (refuses e) = None

-- the value at the start of the bytes and what follows it, with n levels left
abbrev pub value : ℕ → List ℕ → Option (Tree × List ℕ)
value n b = forget (any n b)

-- the message at the start of the bytes, of at most n levels: its capabilities and its tree; and what follows
abbrev pub message : ℕ → List ℕ → Option ((ℕ × Tree) × List ℕ)
message n b = forget (named.message (any n) b)
