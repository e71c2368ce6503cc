-- A message: the frame round one value.
use Rattle.std.specs.Prelude.{ℕ, ◌<◌, ◌^◌, List, [], ◌∷◌, length}
use Rattle.std.specs.Int.{w32, to_le_bytes}
use Rattle.bser_format.specs.Tree.{Tree}
use Rattle.bser_format.specs.Grammar.{Format, Bytes, Given, SpellsCount, ◌then◌, Spells}

-- a message's header: two fixed bytes, the capabilities c in four bytes, and the length k of its
-- body
abbrev pub Head : ℕ → ℕ → Format
Head c k = Given (c < 2 ^ 32) (Bytes (0x00 ∷ 0x02 ∷ []) then Bytes (to_le_bytes w32 c) then SpellsCount k)

-- The header, the capabilities in four bytes, the body's length, and the body, which is one value of at most n levels. No slice is longer.
pub record IsMessage (n c : ℕ) (t : Tree) (b : List ℕ) : Type 0 where
  pub body : List ℕ
  pub capabilities : c < 2 ^ 32
  pub whole : (Bytes (0x00 ∷ 0x02 ∷ []) then Bytes (to_le_bytes w32 c) then SpellsCount (length body) then Bytes body) b
  pub value : Spells n t body
  pub short : length b < 2 ^ 63
