-- BSER's grammar. A format says which byte lists, as a whole, are of its form.
use Rattle.std.specs.Prelude.{◌≡◌, ◌<◌, ◌^◌, ℕ, zero, suc, ℤ, pos, Bool, true, false, List, [], ◌∷◌, ◌++◌, length, Option, Some, None, IsUtf8, FitsSigned, ◌⊎◌}
use Rattle.std.specs.List.{AllByRecursion}
use Rattle.std.specs.Int.{Width, w8, w16, w32, w64, to_le_bytes, cast_unsigned}
use Rattle.bser_format.specs.Tree.{Tree, null, boolean, integer, real, bytes, text, array, object, template, entries, rows, items}

abbrev pub Format : Type 1
Format = List ℕ → Type 0

-- these bytes and no others
abbrev pub Bytes : List ℕ → Format
Bytes c b = b ≡ c

-- no byte list
abbrev pub Never : Format
Never b = ⊥

-- the form F, on a condition
abbrev pub Given : Type 0 → Format → Format
Given P F b = P × F b

-- a prefix of the form F, and then a rest of the form G
pub record ◌then◌ (F G : Format) (b : List ℕ) : Type 0 where
  pub front : List ℕ
  pub rest : List ℕ
  pub whole : b ≡ front ++ rest
  pub first : F front
  pub second : G rest

infixr 30 ◌then◌
-- the list's members, one after the other
abbrev pub Each : {X : Type 0} → (X → Format) → List X → Format
Each F [] = Bytes []
Each F (x ∷ xs) = F x then Each F xs

-- ---- integers and strings

pub data IntSize : Type 0 where
  int8 int16 int32 int64 : IntSize

abbrev pub tag_of : IntSize → ℕ
tag_of int8 = 0x03
tag_of int16 = 0x04
tag_of int32 = 0x05
tag_of int64 = 0x06

abbrev pub width_of : IntSize → Width
width_of int8 = w8
width_of int16 = w16
width_of int32 = w32
width_of int64 = w64

-- the tag, and the number in two's complement, the lowest byte first
abbrev pub int_bytes : IntSize → ℤ → List ℕ
int_bytes s v = tag_of s ∷ to_le_bytes (width_of s) (cast_unsigned (width_of s) v)

-- an integer of any size that holds it
pub record SpellsInteger (v : ℤ) (b : List ℕ) : Type 0 where
  pub size : IntSize
  pub fits : FitsSigned (width_of size) v
  pub spelled : b ≡ int_bytes size v

-- a length or a count
abbrev pub SpellsCount : ℕ → Format
SpellsCount n = SpellsInteger (pos n)

abbrev pub SpellsBytes : List ℕ → Format
SpellsBytes s = Bytes (0x02 ∷ []) then SpellsCount (length s) then Bytes s

abbrev pub SpellsText : List ℕ → Format
SpellsText s = Bytes (0x0d ∷ []) then SpellsCount (length s) then Given (IsUtf8 s) (Bytes s)

-- a string under either tag
abbrev pub SpellsString : List ℕ → Format
SpellsString s b = SpellsBytes s b ⊎ SpellsText s b

-- ---- values

abbrev pub Bool_tag : Bool → ℕ
Bool_tag true = 0x08
Bool_tag false = 0x09

abbrev pub SpellsEntry : (Tree → Format) → List ℕ × Tree → Format
SpellsEntry F e = SpellsString e.0 then F e.1

abbrev pub SpellsField : (Tree → Format) → Option Tree → Format
SpellsField F None = Bytes (0x0c ∷ [])
SpellsField F (Some t) = F t

-- a table's key, which is text under either tag
abbrev pub SpellsKey : List ℕ → Format
SpellsKey k = Given (IsUtf8 k) (SpellsString k)

-- a field for each key in each row, and no row where there is no key
abbrev pub IsTemplate : List (List ℕ) → List (List (Option Tree)) → Type 0
IsTemplate [] rs = rs ≡ []
IsTemplate (k ∷ ks) rs = AllByRecursion (λ r. length r ≡ suc (length ks)) rs

-- A value with n levels left. Each container takes a level, and a table's list of keys takes one more while it is read.
abbrev pub Spells : ℕ → Tree → Format
Spells n null = Bytes (0x0a ∷ [])
Spells n (boolean v) = Bytes (Bool_tag v ∷ [])
Spells n (integer v) = SpellsInteger v
Spells n (real r) = Given (r < 2 ^ 64) (Bytes (0x07 ∷ to_le_bytes w64 r))
Spells n (bytes s) = SpellsBytes s
Spells n (text s) = SpellsText s
Spells zero (array ts) = Never
Spells (suc n) (array ts) = Bytes (0x00 ∷ []) then SpellsCount (length (items ts)) then Each (Spells n) (items ts)
Spells zero (object es) = Never
Spells (suc n) (object es) = Bytes (0x01 ∷ []) then SpellsCount (length (entries es)) then Each (SpellsEntry (Spells n)) (entries es)
Spells zero (template ks rs) = Never
Spells (suc zero) (template ks rs) = Never
Spells (suc (suc n)) (template ks rs) = Given (IsTemplate ks (rows rs)) (Bytes (0x0b ∷ []) then Bytes (0x00 ∷ []) then SpellsCount (length ks) then Each SpellsKey ks
    then SpellsCount (length (rows rs)) then Each (Each (SpellsField (Spells (suc n)))) (rows rs))
