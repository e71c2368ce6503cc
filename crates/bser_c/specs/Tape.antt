-- A tape: two words for each event, over the bytes that its strings stand in.
use Rattle.std.specs.Prelude.{◌≡◌, ◌≤◌, ℕ, ◌+◌, ◌*◌, ◌-◌, ◌^◌, min, Bool, true, false, List, [], ◌∷◌, ◌++◌, length, take, drop, if◌then◌else◌}
use Rattle.std.specs.Int.{w64, cast_unsigned}
use Rattle.bser_format.specs.Message.{IsMessage}
use Rattle.bser_format.specs.NamedLaws.{HasTextKeys}
use Rattle.bser_format.specs.Tree.{Tree}
use Rattle.bser_events.specs.Events as events
use Rattle.bser_events.specs.Events.{Event}

-- ---- words

-- a tag in the low eight bits, and above them a count, at most the greatest that fits
abbrev pub first_word : ℕ → ℕ → ℕ
first_word tag count = 256 * min count (2 ^ 56 - 1) + tag

-- the tag of a key, which is spelled as a text or as a byte string
abbrev pub key_tag : Bool → ℕ
key_tag is_text = if is_text then 0x0e else 0x0f

-- the first word of an event
abbrev pub head_of : Bool → Event → ℕ
head_of is_text events.null = first_word 0x0a 0
head_of is_text (events.boolean true) = first_word 0x08 0
head_of is_text (events.boolean false) = first_word 0x09 0
head_of is_text (events.integer v) = first_word 0x06 0
head_of is_text (events.real r) = first_word 0x07 0
head_of is_text (events.bytes s) = first_word 0x02 (length s)
head_of is_text (events.text s) = first_word 0x0d (length s)
head_of is_text (events.open_array n) = first_word 0x00 n
head_of is_text (events.open_object n) = first_word 0x01 n
head_of is_text (events.key s) = first_word (key_tag is_text) (length s)
head_of is_text (events.open_template n) = first_word 0x0b n
head_of is_text (events.open_rows n) = first_word 0x10 n
head_of is_text events.skip = first_word 0x0c 0
head_of is_text events.close = first_word 0x11 0

-- the first word of an event, under either mark
abbrev pub IsFirst : Event → ℕ → Type 0
IsFirst e w = (is_text : Bool) × (w ≡ head_of is_text e)

-- these bytes stand there, within the input
pub record StandsAt (input : List ℕ) (at : ℕ) (s : List ℕ) : Type 0 where
  pub within : at + length s ≤ length input
  pub same : take (length s) (drop at input) ≡ s

-- the second word of an event: the bits of a number, the place of a string, and else any place in
-- the input
abbrev pub IsSecond : List ℕ → Event → ℕ → Type 0
IsSecond input (events.integer v) w = w ≡ cast_unsigned w64 v
IsSecond input (events.real r) w = w ≡ r
IsSecond input (events.bytes s) w = StandsAt input w s
IsSecond input (events.text s) w = StandsAt input w s
IsSecond input (events.key s) w = StandsAt input w s
IsSecond input _ w = w ≤ length input

-- the two words of an event
pub record AreWordsOf (input : List ℕ) (e : Event) (words : List ℕ) : Type 0 where
  pub is_text : Bool
  pub second : ℕ
  pub are : words ≡ head_of is_text e ∷ second ∷ []
  pub place : IsSecond input e second

-- ---- tapes

-- the words of these events, one after the other
pub data AreWordsOfAll (input : List ℕ) : List Event → List ℕ → Type 0 where
  none : AreWordsOfAll input [] []
  more : (e : Event) (es : List Event) (words rest : List ℕ) → AreWordsOf input e words → AreWordsOfAll input es rest → AreWordsOfAll input (e ∷ es) (words ++ rest)

-- they are the words of some events
abbrev pub AreOfEvents : List ℕ → List ℕ → Type 0
AreOfEvents input words = (es : List Event) × AreWordsOfAll input es words

-- the words are the tape of a tree, whose strings stand in the input
abbrev pub IsTapeOf : List ℕ → Tree → List ℕ → Type 0
IsTapeOf input t words = AreWordsOfAll input (events.events t) words

-- ---- messages

-- a message of at most so many levels, and its tape over the input
pub record HasTape (levels : ℕ) (input : List ℕ) (capabilities : ℕ) (text words : List ℕ) : Type 0 where
  pub tree : Tree
  pub message : IsMessage levels capabilities tree text
  pub keys : HasTextKeys tree
  pub tape : IsTapeOf input tree words

-- the bytes begin with a message of so many bytes, and these words are its tape over them
pub record BeginsWithTape (levels : ℕ) (bytes : List ℕ) (capabilities size : ℕ) (words : List ℕ) : Type 0 where
  pub text : List ℕ
  pub rest : List ℕ
  pub front : bytes ≡ text ++ rest
  pub size_is : length text ≡ size
  pub has : HasTape levels bytes capabilities text words

-- the bytes begin with a message whose tape has so many words
pub record HasTapeOf (levels : ℕ) (bytes : List ℕ) (len : ℕ) : Type 0 where
  pub capabilities : ℕ
  pub size : ℕ
  pub words : List ℕ
  pub tape : BeginsWithTape levels bytes capabilities size words
  pub len_is : length words ≡ len
