-- Messages with a fault, and types to read them.
use Rattle.std.specs.Prelude.{ℕ, zero, suc, List, [], ◌∷◌, Some, None, map}
use Rattle.bser_format.specs.ReadsScalars.{is_signed}
use Rattle.bser_format.specs.Tree.{Tree}
use Rattle.bser_format.specs.Asks.{Asks, Payloads, asks_integer, asks_string, asks_struct, required_field, optional_field}
use Rattle.bser_format.specs.Named.{Answer, message, with_text_keys}
use Rattle.test_documents.specs.Samples.{empty_array}

-- what a message is read as with n levels, the keys of objects being UTF-8
abbrev pub answer_within : ℕ → List ℕ → Answer (ℕ × Tree)
answer_within n = message (with_text_keys n)

-- what it is read as with 128 levels
abbrev pub answer : List ℕ → Answer (ℕ × Tree)
answer = answer_within 128

-- the lists that break off before the end of this one, the shortest first
abbrev pub cuts : List ℕ → List (List ℕ)
cuts [] = []
cuts (x ∷ b) = [] ∷ map (λ c. x ∷ c) (cuts b)

-- n templates of one row and one field, one inside the other, written out: each is an array of one object
abbrev pub templates_out : ℕ → List ℕ
templates_out zero = empty_array
templates_out (suc n) = 0x00 ∷ 0x03 ∷ 0x01 ∷ 0x01 ∷ 0x03 ∷ 0x01 ∷ 0x0d ∷ 0x03 ∷ 0x01 ∷ 0x61 ∷ templates_out n

-- a number of 64 bits
abbrev pub signed : Asks
signed = asks_integer (is_signed 64)

-- a text `a`, and a number `b` that may be null or absent
abbrev pub pair : Asks
pair = asks_struct ((0x61 ∷ []) ∷ (0x62 ∷ []) ∷ []) (required_field asks_string ∷ optional_field signed ∷ [])

-- two numbers of one name, of which the second is never read
abbrev pub namesakes : Asks
namesakes = asks_struct ((0x61 ∷ []) ∷ (0x61 ∷ []) ∷ []) (required_field signed ∷ required_field signed ∷ [])

-- a variant `u` without payload, and `n` of a number
abbrev pub variants : Payloads
variants = (0x75 ∷ [], None) ∷ (0x6e ∷ [], Some signed) ∷ []
