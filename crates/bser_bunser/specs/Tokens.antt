-- Tokens: scalars, and the heads of strings and of containers.
use Rattle.std.specs.Prelude.{◌≡◌, ℕ, suc, ◌≤◌, ◌<◌, ◌^◌, Bool, true, false, List, [], ◌∷◌, ◌++◌, length, take, ◌⊎◌, ◌==◌, ◌||◌, if◌then◌else◌, ⊤}
use Rattle.std.specs.Int.{w64, to_le_bytes, from_le_bytes}
use Rattle.bser_format.specs.Tree.{Tree, null, boolean, integer, real, bytes, text, array, object, items_of, entries_of}
use Rattle.bser_format.specs.Grammar.{Format, Bytes, Given, Bool_tag, IntSize, tag_of, SpellsInteger, SpellsCount}
use Rattle.bser_format.specs.declared.errors.Error.{Error}
use Rattle.bser_format.specs.declared.errors.Error.TheVariants.{DeInvalidStartByte}
use Rattle.bser_format.specs.declared.errors.Kind.TheVariants.{NextItem}
use Rattle.bser_format.specs.Named.{Reader, refuses, give, refuse, ◌>>=◌, eof, next, front, many, int_after, size, count, utf8, entry_of, template_after, value, is_positive}
use Rattle.bser_bunser.specs.declared.prefix.Prefix.{Prefix}
use Rattle.bser_bunser.specs.declared.prefix.Prefix.TheVariants.{Found, Short}
use Rattle.bser_bunser.specs.declared.prefix.Prefix.TheVariants as prefixes
use Rattle.bser_bunser.specs.declared.prefix.Unexpected.{Unexpected}
use Rattle.bser_bunser.specs.declared.prefix.Unexpected.TheVariants as unexpected
use Rattle.bser_bunser.specs.declared.prefix.Token.{Token}
use Rattle.bser_bunser.specs.declared.prefix.Token.TheVariants as tokens
use Rattle.bser_bunser.specs.Refusal.{unexpected_refusal}
use Rattle.bser_bunser.specs.Faults.{Stands}

-- ---- which bytes are a token

-- a text's tag, or a byte string's
abbrev pub tag_of_string : Bool → ℕ
tag_of_string true = 0x0d
tag_of_string false = 0x02

-- a tag, and then F
pub record Headed (tag : ℕ) (F : Format) (b : List ℕ) : Type 0 where
  pub rest : List ℕ
  pub whole : b ≡ tag ∷ rest
  pub body : F rest

-- the bytes of a token
abbrev pub SpellsToken : Token → Format
SpellsToken tokens.Null = Bytes (0x0a ∷ [])
SpellsToken (tokens.Bool v) = Bytes (Bool_tag v ∷ [])
SpellsToken tokens.Skip = Bytes (0x0c ∷ [])
SpellsToken (tokens.Int v) = SpellsInteger v
SpellsToken (tokens.Real r) = Given (r < 2 ^ 64) (Bytes (0x07 ∷ to_le_bytes w64 r))
SpellsToken (tokens.Str is_text n) = Headed (tag_of_string is_text) (SpellsCount n)
SpellsToken (tokens.Array n) = Headed 0x00 (SpellsCount n)
SpellsToken (tokens.Object n) = Headed 0x01 (SpellsCount n)
SpellsToken tokens.Template = Bytes (0x0b ∷ [])

-- the length or the count in a token
abbrev pub LengthFits : Token → Type 0
LengthFits (tokens.Str is_text n) = n < 2 ^ 63
LengthFits (tokens.Array n) = n < 2 ^ 63
LengthFits (tokens.Object n) = n < 2 ^ 63
LengthFits _ = ⊤

-- ---- a plain reader of tokens

-- a token after its tag
abbrev pub token_after : ℕ → Reader Token
token_after tag =
    if tag == 0x0a then give tokens.Null
    else if tag == 0x08 then give (tokens.Bool true)
    else if tag == 0x09 then give (tokens.Bool false)
    else if tag == 0x07 then (front 8 >>= λ b. give (tokens.Real (from_le_bytes w64 b)))
    else if tag == 0x02 then (size >>= λ n. give (tokens.Str false n))
    else if tag == 0x0d then (size >>= λ n. give (tokens.Str true n))
    else if tag == 0x00 then (count >>= λ n. give (tokens.Array n))
    else if tag == 0x01 then (count >>= λ n. give (tokens.Object n))
    else if tag == 0x0b then give tokens.Template
    else if tag == 0x0c then give tokens.Skip
    else (int_after (DeInvalidStartByte NextItem tag) tag >>= λ v. give (tokens.Int v))

-- the next token
abbrev pub token : Reader Token
token = next >>= token_after

-- what follows a token where a value begins, whose containers hold values of at most n levels
abbrev pub after_token : Reader (List ℕ) → ℕ → Token → Reader Tree
after_token key n tokens.Null = give null
after_token key n (tokens.Bool v) = give (boolean v)
after_token key n tokens.Skip = refuse (DeInvalidStartByte NextItem 0x0c)
after_token key n (tokens.Int v) = give (integer v)
after_token key n (tokens.Real r) = give (real r)
after_token key n (tokens.Str true len) = front len >>= utf8 >>= λ s. give (text s)
after_token key n (tokens.Str false len) = front len >>= λ s. give (bytes s)
after_token key n (tokens.Array len) = many (value key n) len >>= λ ts. give (array (items_of ts))
after_token key n (tokens.Object len) =
    many (entry_of key (value key n)) len >>= λ es. give (object (entries_of es))
after_token key n tokens.Template = next >>= template_after (is_positive n) (value key n)

-- where a level is left, a value is a token and then what follows it
abbrev pub TokensBeginValues : Type 0
TokensBeginValues =
    (key : Reader (List ℕ)) (n : ℕ) (b : List ℕ)
    → value key (suc n) b ≡ (token >>= after_token key n) b

-- ---- a token at the start of bytes

-- too few bytes: r finds an early end in them, and in fewer than n that begin so
pub record TooShort {X : Type 0} (r : Reader X) (held : List ℕ) (n : ℕ) : Type 0 where
  pub some : length held < n
  pub most : n ≤ 10
  pub cut : (more : List ℕ) → length (held ++ more) < n → r (held ++ more) ≡ refuses eof

-- r gives this error on what begins with these bytes, whatever follows
pub record Rejects {X : Type 0} (r : Reader X) (held : List ℕ) (e : Error) : Type 0 where
  pub some : 0 < length held
  pub name : (more : List ℕ) → r (held ++ more) ≡ refuses e

-- a token is at the start, or one is cut short, or none begins so and this is why
abbrev pub IsTokenPrefix : List ℕ → Prefix Token → Type 0
IsTokenPrefix held (Found t len) = (len ≤ length held) × SpellsToken t (take len held)
IsTokenPrefix held (Short need) = TooShort token held need
IsTokenPrefix held (prefixes.Unexpected why) = Rejects token held (unexpected_refusal NextItem why) × Stands why held

-- no integer has this tag
abbrev pub IsNoIntTag : ℕ → Type 0
IsNoIntTag b = (s : IntSize) → tag_of s ≡ b → ⊥

-- a length or a count follows this tag
abbrev pub IsCounted : ℕ → Type 0
IsCounted b = (b ≡ 0x02) ⊎ ((b ≡ 0x0d) ⊎ ((b ≡ 0x00) ⊎ (b ≡ 0x01)))

-- the token of this tag and this length or count
pub record IsTokenOf (tag n : ℕ) (t : Token) : Type 0 where
  pub head : (rest : List ℕ) → SpellsCount n rest → SpellsToken t (tag ∷ rest)

-- what is wrong with a length, as it is wrong with a count
abbrev pub as_count : Unexpected → Unexpected
as_count (unexpected.Tag b) = unexpected.Tag b
as_count (unexpected.Length b) = unexpected.Length b
as_count unexpected.NegativeLength = unexpected.NegativeCount
as_count unexpected.NegativeCount = unexpected.NegativeCount

-- what is wrong with what follows this tag
abbrev pub fault_after : ℕ → Unexpected → Unexpected
fault_after tag why = if (tag == 0x00) || (tag == 0x01) then as_count why else why
