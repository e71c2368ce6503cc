-- Integers and lengths at the start of bytes, as far as these go.
use Rattle.std.specs.Prelude.{◌≡◌, ℕ, ◌+◌, ◌^◌, ℤ, negsuc, ◌≤◌, ◌<◌, List, ◌∷◌, length, take, drop, ◌⊎◌, FitsSigned}
use Rattle.std.specs.Int.{Width, w64, to_le_bytes, cast_unsigned, byte_len}
use Rattle.bser_format.specs.Grammar.{IntSize, tag_of, width_of, SpellsInteger, SpellsCount}
use Rattle.bser_bunser.specs.declared.prefix.Prefix.{Prefix}
use Rattle.bser_bunser.specs.declared.prefix.Prefix.TheVariants.{Found, Short}
use Rattle.bser_bunser.specs.declared.prefix.Prefix.TheVariants as prefixes
use Rattle.bser_bunser.specs.declared.prefix.Unexpected.TheVariants.{Tag, Length, NegativeLength}

-- the first k bytes are a number of this width in two's complement, the lowest byte first
pub record NumberPrefix (w : Width) (k : ℕ) (rest : List ℕ) (v : ℤ) : Type 0 where
  pub within : k ≤ length rest
  pub fits : FitsSigned w v
  pub bytes : take k rest ≡ to_le_bytes w (cast_unsigned w v)

-- the first eight bytes are a number's, the lowest first
pub record BitsPrefix (rest : List ℕ) (n : ℕ) : Type 0 where
  pub within : 8 ≤ length rest
  pub fits : n < 2 ^ 64
  pub bytes : take 8 rest ≡ to_le_bytes w64 n

-- an integer's tag is there, and the integer has n bytes or more
pub record IntTagged (held : List ℕ) (n : ℕ) : Type 0 where
  pub size : IntSize
  pub enough : n ≤ 1 + byte_len (width_of size)
  pub next : held ≡ tag_of size ∷ drop 1 held

-- an integer may begin there, has n bytes or more, and these are fewer
pub record CutInt (held : List ℕ) (n : ℕ) : Type 0 where
  pub some : length held < n
  pub most : n ≤ 9
  pub tagged : (n ≤ 1) ⊎ IntTagged held n

-- b is there, which is no integer's tag
pub record OtherTag (b : ℕ) (held : List ℕ) : Type 0 where
  pub next : held ≡ b ∷ drop 1 held
  pub other : (s : IntSize) → tag_of s ≡ b → ⊥

-- an integer below 0 is there
pub record NegativeInt (held : List ℕ) : Type 0 where
  pub less : ℕ
  pub len : ℕ
  pub within : len ≤ length held
  pub spelled : SpellsInteger (negsuc less) (take len held)

-- an integer is at the start, or one is cut short, or another tag is there
abbrev pub IsIntPrefix : List ℕ → Prefix ℤ → Type 0
IsIntPrefix held (Found v len) = (len ≤ length held) × SpellsInteger v (take len held)
IsIntPrefix held (Short need) = CutInt held need
IsIntPrefix held (prefixes.Unexpected (Tag b)) = OtherTag b held
IsIntPrefix held (prefixes.Unexpected _) = ⊥

-- a length is at the start, or one is cut short, or something else is there
abbrev pub IsLengthPrefix : List ℕ → Prefix ℕ → Type 0
IsLengthPrefix held (Found n len) = (len ≤ length held) × SpellsCount n (take len held)
IsLengthPrefix held (Short need) = CutInt held need
IsLengthPrefix held (prefixes.Unexpected (Length b)) = OtherTag b held
IsLengthPrefix held (prefixes.Unexpected NegativeLength) = NegativeInt held
IsLengthPrefix held (prefixes.Unexpected _) = ⊥
