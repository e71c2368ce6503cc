-- What the reader of tagged values takes.
use Rattle.std.specs.Prelude.{◌≡◌, ◌≤◌, ◌≤ℤ◌, ◌<◌, ℕ, ◌+◌, ◌+ℤ◌, ◌^◌, ℤ, pos, List, ◌++◌, length, take, max, false, FitsSigned}
use Rattle.std.specs.Int.{Width, w64, to_le_bytes, cast_unsigned}
use Rattle.bser_format.specs.Grammar.{Format, SpellsInteger, SpellsCount}
use Rattle.bser_format.specs.Message.{Head}
use Rattle.bser_source.specs.Window.{Window, Grown, Took, with_limit}
use Rattle.bser_bunser.specs.Prefixes.{IsIntPrefix}
use Rattle.bser_bunser.specs.Tokens.{SpellsToken}
use Rattle.bser_bunser.specs.declared.prefix.Prefix.TheVariants as prefixes
use Rattle.bser_bunser.specs.declared.prefix.Unexpected as unexpected
use Rattle.bser_bunser.specs.declared.prefix.Look.{Look}
use Rattle.bser_bunser.specs.declared.prefix.Look.TheVariants.{Taken, Unexpected}
use Rattle.bser_bunser.specs.declared.prefix.Token.{Token}

-- ---- what is wanted

-- an integer
abbrev pub IsInteger : Format
IsInteger b = (v : ℤ) × SpellsInteger v b

-- a length
abbrev pub IsLength : Format
IsLength b = (n : ℕ) × SpellsCount n b

-- a token
abbrev pub IsToken : Format
IsToken b = (t : Token) × SpellsToken t b

-- a length, and as many bytes
pub record SpellsCounted (s b : List ℕ) : Type 0 where
  pub number : List ℕ
  pub count : SpellsCount (length s) number
  pub whole : b ≡ number ++ s

-- a string after its tag
abbrev pub IsString : Format
IsString b = (s : List ℕ) × SpellsCounted s b

-- the header of a message
abbrev pub IsHead : Format
IsHead b = (c : ℕ) × (k : ℕ) × Head c k b

-- ---- numbers, integers and tokens

-- the first buffered byte was taken, and then a number of this width in two's complement
pub record TookNumber (w : Width) (old new : Window) (v : ℤ) : Type 0 where
  pub fits : FitsSigned w v
  pub took : Took old new (take 1 old.buffered ++ to_le_bytes w (cast_unsigned w v))

-- the first buffered byte was taken, and then the eight bytes of a number, the lowest first
pub record TookBits (old new : Window) (n : ℕ) : Type 0 where
  pub fits : n < 2 ^ 64
  pub took : Took old new (take 1 old.buffered ++ to_le_bytes w64 n)

-- an integer was taken
pub record TookInt (old new : Window) (v : ℤ) : Type 0 where
  pub text : List ℕ
  pub spelled : SpellsInteger v text
  pub took : Took old new text

-- a byte that is no integer's tag is where an integer is wanted, and nothing was taken
pub record NoInt (old new : Window) (why : unexpected.Unexpected) : Type 0 where
  pub need : ℕ
  pub grown : Grown need old new
  pub other : IsIntPrefix new.buffered (prefixes.Unexpected why)
  pub working : old.failed ≡ false

-- an integer was taken, or there is none
abbrev pub LooksForInt : Window → Window → Look ℤ → Type 0
LooksForInt old new (Taken v) = TookInt old new v
LooksForInt old new (Unexpected why) = NoInt old new why

-- a token was taken
pub record TookToken (old new : Window) (t : Token) : Type 0 where
  pub text : List ℕ
  pub spelled : SpellsToken t text
  pub took : Took old new text

-- ---- lengths and counted bytes

-- as many bytes were taken
pub record TookSome (n : ℕ) (old new : Window) : Type 0 where
  pub text : List ℕ
  pub len : length text ≡ n
  pub took : Took old new text

-- a string's length and its bytes were taken
pub record TookCounted (old new : Window) (s : List ℕ) : Type 0 where
  pub text : List ℕ
  pub spelled : SpellsCounted s text
  pub took : Took old new text

-- ---- the frame of a message

-- a message's header was taken, and its body's length was announced
pub record TookHead (old new : Window) (capabilities : ℕ) (len : ℤ) : Type 0 where
  pub text : List ℕ
  pub size : ℕ
  pub value : len ≡ pos size
  pub head : Head capabilities size text
  pub took : Took old (with_limit old.limit new) text
  pub kept : old.limit ≤ new.limit
  pub limit : new.limit ≤ max old.limit (new.count + size)

-- the count that a message announced: where its body ends, if that is a number at all
pub record EndsAt (start len : ℤ) (count : ℕ) : Type 0 where
  pub start_in : pos 0 ≤ℤ start
  pub len_in : pos 0 ≤ℤ len
  pub small : count < 2 ^ 63
  pub sum : pos count ≡ start +ℤ len
