-- Where the tokens of a text begin, and why none does.
use Rattle.std.specs.Prelude.{ℕ, ◌+◌, ◌-◌, List, [], ◌∷◌, ◌++◌, Bool, true, false, Option, Some, None, not, ◌&&◌, ◌||◌, ◌==◌, nat_lt, nat_le, nat_eq, codes, if◌then◌else◌}
use Rattle.std.specs.List.{starts_with}
use Rattle.std.specs.Str.{is_utf8}
use Rattle.std.specs.Char.{is_digit}
use Rattle.json.specs.Word.{after_number, is_operator, is_space}
use Rattle.bser_from_json.specs.declared.fault.JsonFault.{JsonFault}
use Rattle.bser_from_json.specs.declared.fault.JsonFault.TheVariants as faults
use Rattle.bser_from_json.specs.declared.places.TextState.{TextState}
use Rattle.bser_from_json.specs.declared.places.TextState.TheVariants.{Nothing, Word, Text, Escape}
use Rattle.bser_from_json.specs.declared.places.Seek.{Seek}

-- whether a token, a comma or a colon begins with the byte
abbrev pub begins : TextState → ℕ → Bool
begins Nothing x = not (is_space x)
begins Word x = is_operator x
begins Text x = false
begins Escape x = false

-- what the byte leaves open: nothing, a word, a string, or an escape in one
abbrev pub behind : TextState → ℕ → TextState
behind Nothing x = if x == 34 then Text else if is_space x || is_operator x then Nothing else Word
behind Word x = if is_space x || is_operator x then Nothing else Word
behind Text x = if x == 34 then Nothing else if x == 92 then Escape else Text
behind Escape x = Text

-- whether what begins with this byte ends a value
abbrev pub ends_a_value : ℕ → Bool
ends_a_value c = not ((c == 123) || ((c == 91) || ((c == 58) || (c == 44))))

-- a colon goes with the string before it, and a comma with what ends a value
abbrev pub goes_with : ℕ → ℕ → Bool
goes_with last x = if x == 58 then last == 34 else if x == 44 then ends_a_value last else false

-- a comma or a colon is passed with the token before it; with the last one where it is asked for
abbrev pub is_passed : Seek → ℕ → Bool
is_passed s x = goes_with s.last x && (s.passes || nat_lt 0 s.left)

-- what is looked for is behind the byte, or begins with it
abbrev pub past : Seek → ℕ → Option Seek
past s x =
    if begins s.inside x then
    (if is_passed s x then Some (record { inside = behind s.inside x; last = x; left = s.left; passes = s.passes })
    else if s.left == 0 then None else Some (record { inside = behind s.inside x; last = x; left = s.left - 1; passes = s.passes }))
    else Some (record { inside = behind s.inside x; last = s.last; left = s.left; passes = s.passes })

abbrev pub place_or : ℕ → Option Seek → (Seek → ℕ) → ℕ
place_or i (Some s) on = on s
place_or i None on = i

-- where it begins, from byte i on
unfoldable pub place_from : Seek → ℕ → List ℕ → ℕ
place_from s i [] = i
place_from s i (x ∷ xs) = place_or i (past s x) (λ t. place_from t (i + 1) xs)

-- where the token begins that so many stand before, each with its comma or colon
abbrev pub token_place : List ℕ → ℕ → ℕ
token_place text n = place_from (record { inside = Nothing; last = 44; left = n; passes = true }) 0 text

-- where what stands right behind so many tokens begins, be it a comma or a colon
abbrev pub place_behind : List ℕ → ℕ → ℕ
place_behind text n = place_from (record { inside = Nothing; last = 44; left = n; passes = false }) 0 text

-- ---- why no token begins here

abbrev pub is_hex : ℕ → Bool
is_hex x = is_digit x 16

-- `u` and four hexadecimal digits, the first of them a `d`, the second such a one
abbrev pub begins_escape : (ℕ → Bool) → List ℕ → Bool
begins_escape is (u ∷ d ∷ x ∷ y ∷ z ∷ xs) = (u == 117) && (((d == 100) || (d == 68)) && (is x && (is_hex y && is_hex z)))
begins_escape is _ = false

-- the second digit of the first half of a pair of surrogates, and of the second half
abbrev pub is_high : ℕ → Bool
is_high x = ((x == 56) || (x == 57)) || (((x == 97) || (x == 98)) || ((x == 65) || (x == 66)))

abbrev pub is_low : ℕ → Bool
is_low x = (nat_le 99 x && nat_le x 102) || (nat_le 67 x && nat_le x 70)

-- behind a backslash: the first half of a pair, or the second, or the first and perhaps the second
abbrev pub begins_high : List ℕ → Bool
begins_high = begins_escape is_high

abbrev pub begins_low : List ℕ → Bool
begins_low = begins_escape is_low

abbrev pub begins_pair : List ℕ → Bool
begins_pair (u ∷ d ∷ x ∷ y ∷ z ∷ s ∷ xs) = (s == 92) && (begins_high (u ∷ d ∷ x ∷ y ∷ z ∷ s ∷ xs) && begins_low xs)
begins_pair _ = false

-- a half of a pair without the other, where the first half of one was before it or not
abbrev pub begins_lone : Bool → List ℕ → Bool
begins_lone paired xs = (begins_high xs && not (begins_pair xs)) || (begins_low xs && not paired)

-- why what stands behind a quote is no string; behind a backslash or not, behind the first half of
-- a pair or not
abbrev pub string_fault : Bool → Bool → List ℕ → JsonFault
string_fault escaped paired [] = faults.EndsEarly
string_fault escaped paired (x ∷ xs) =
    if escaped && begins_lone paired (x ∷ xs) then faults.LoneSurrogate
    else if not escaped && (x == 34) then faults.NotJson
    else if not escaped && nat_lt x 32 then faults.ControlCharacter
    else string_fault (not escaped && (x == 92)) (if escaped then begins_high (x ∷ xs) else paired) xs

abbrev pub is_word_of : List ℕ → List ℕ → Bool
is_word_of w r = starts_with nat_eq r w

-- `NaN` and infinities are named
abbrev pub is_no_number : List ℕ → Bool
is_no_number r = is_word_of (codes "NaN") r || (is_word_of (codes "Infinity") r || is_word_of (codes "-Infinity") r)

-- `true`, `false` or `null` begins with this
abbrev pub begins_a_literal : List ℕ → Bool
begins_a_literal r = is_word_of r (codes "true") || (is_word_of r (codes "false") || is_word_of r (codes "null"))

abbrev pub has_ended : Option (List ℕ) → Bool
has_ended (Some []) = true
has_ended _ = false

-- this text is a number, but for a digit at its end
abbrev pub lacks_a_digit : List ℕ → Bool
lacks_a_digit r = is_utf8 r && has_ended (after_number (r ++ codes "0"))

-- where no token begins: a word that the text ends in is the beginning of one
abbrev pub word_fault : List ℕ → JsonFault
word_fault r = if begins_a_literal r || lacks_a_digit r then faults.EndsEarly else faults.NotJson

abbrev pub first_fault : List ℕ → JsonFault
first_fault [] = faults.EndsEarly
first_fault (x ∷ xs) = if is_no_number (x ∷ xs) then faults.NotANumber else if x == 34 then string_fault false false xs else word_fault (x ∷ xs)
