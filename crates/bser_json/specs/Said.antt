-- What is printed of a tree, as tokens of JSON.
use Rattle.std.specs.Prelude.{◌≡◌, ℕ, List, [], ◌∷◌, ◌++◌, Option, Some, None, Bool, true, false, Float}
use Rattle.std.specs.Float.{binary64, float_is_finite}
use Rattle.std.specs.Fmt.{signed_decimal}
use Rattle.std.specs.Int.{w64, to_be_bytes}
use Rattle.std.specs.Str.{is_utf8}
use Rattle.std.specs.Io.KnownBytes.{Appends}
use Rattle.fast_float.specs.Parse.{parse_float}
use Rattle.hex.specs.Hex.{IsBytes, encode_lower}
use Rattle.json.specs.Print.{IsNumber}
use Rattle.json.specs.Token as tokens
use Rattle.bser_format.specs.QuotedText.{key_mark}
use Rattle.bser_format.specs.RealText.{float_of}
use Rattle.bser_format.specs.Tree.{Tree, null, boolean, integer, real, bytes, text, array, object, template, Items, no_items, item, Entries, no_entries, entry}
use Rattle.bser_from_json.specs.Made.{is_whole, mark_key}
use Rattle.bser_json.specs.Printed.{laid_out, Puts}
use Rattle.bser_from_json.specs.declared.meaning.Mark.{Mark}
use Rattle.bser_from_json.specs.declared.meaning.Mark.TheVariants as marks
use Rattle.bser_json.specs.declared.printing.Layout.{Layout}
use Rattle.bser_json.specs.declared.printing.Printing.{Printing}

-- the object of a mark, with the bytes in hexadecimal
abbrev pub marked : Mark → List ℕ → List tokens.Token
marked m bs = tokens.begin_object ∷ tokens.key (mark_key m) ∷ tokens.string (encode_lower bs) ∷ tokens.end_object ∷ []

abbrev pub SaysMarked : Mark → List ℕ → List tokens.Token → Type 0
SaysMarked m bs ts = (ts ≡ marked m bs) × IsBytes bs

-- a byte string: as a string where it is UTF-8, else marked
abbrev pub SaysString : Bool → List ℕ → List tokens.Token → Type 0
SaysString true bs ts = ts ≡ tokens.string bs ∷ []
SaysString false bs ts = SaysMarked marks.Bytes bs ts

abbrev pub SaysBytes : List ℕ → List tokens.Token → Type 0
SaysBytes bs ts = SaysString (is_utf8 bs) bs ts

-- a number that is no integer and reads back as this real where it is finite, and else its bits, the
-- highest byte first
abbrev pub SaysNumber : ℕ → Float → Bool → List tokens.Token → Type 0
SaysNumber bits x true ts = (s : List ℕ) × (ts ≡ tokens.number s ∷ []) × IsNumber s × (is_whole s ≡ false) × (parse_float binary64 s ≡ Some x)
SaysNumber bits x false ts = SaysMarked marks.Real (to_be_bytes w64 bits) ts

-- the same of a real, where the bits may be those of no number
abbrev pub SaysFloat : ℕ → Option Float → List tokens.Token → Type 0
SaysFloat bits (Some x) ts = SaysNumber bits x (float_is_finite x) ts
SaysFloat bits None ts = SaysMarked marks.Real (to_be_bytes w64 bits) ts

-- a real by its bits
abbrev pub SaysReal : ℕ → List tokens.Token → Type 0
SaysReal bits ts = SaysFloat bits (float_of bits) ts

-- a key, behind one dollar sign more where it begins with one
abbrev pub said_key : List ℕ → tokens.Token
said_key k = tokens.key (key_mark k ++ k)

abbrev pub SaysKey : List ℕ → List tokens.Token → Type 0
SaysKey k ts = ts ≡ said_key k ∷ []

-- what is printed of a value, of the items of an array, and of the entries of an object. A value is
-- no template
abbrev mutual
  pub Says : Tree → List tokens.Token → Type 0
  Says null ts = ts ≡ tokens.null ∷ []
  Says (boolean b) ts = ts ≡ tokens.boolean b ∷ []
  Says (integer n) ts = ts ≡ tokens.number (signed_decimal n) ∷ []
  Says (real bits) ts = SaysReal bits ts
  Says (bytes s) ts = SaysBytes s ts
  Says (text s) ts = ts ≡ tokens.string s ∷ []
  Says (array us) ts = (inner : List tokens.Token) × SaysItems us inner × (ts ≡ tokens.begin_array ∷ (inner ++ tokens.end_array ∷ []))
  Says (object es) ts = (inner : List tokens.Token) × SaysEntries es inner × (ts ≡ tokens.begin_object ∷ (inner ++ tokens.end_object ∷ []))
  Says (template ks rs) ts = ⊥

  pub SaysItems : Items → List tokens.Token → Type 0
  SaysItems no_items ts = ts ≡ []
  SaysItems (item u us) ts = (a : List tokens.Token) × (b : List tokens.Token) × Says u a × SaysItems us b × (ts ≡ a ++ b)

  pub SaysEntries : Entries → List tokens.Token → Type 0
  SaysEntries no_entries ts = ts ≡ []
  SaysEntries (entry k u es) ts = (a : List tokens.Token) × (b : List tokens.Token) × Says u a × SaysEntries es b × (ts ≡ said_key k ∷ (a ++ b))

-- tokens were put that say this
abbrev pub PutsSaid : {W : Type 0} → (W → Option (List ℕ)) → (List tokens.Token → Type 0) → Printing W → Printing W → Type 0
PutsSaid contents said old new = (ts : List tokens.Token) × said ts × Puts contents ts old new

-- the bytes are a JSON text of this value
abbrev pub IsTextOf : Layout → Tree → List ℕ → Type 0
IsTextOf layout u xs = (ts : List tokens.Token) × Says u ts × (xs ≡ laid_out layout ts)

-- a JSON text of this value was appended
abbrev pub WritesText : Layout → Tree → Option (List ℕ) → Option (List ℕ) → Type 0
WritesText layout u old new = (text : List ℕ) × IsTextOf layout u text × Appends old new text
