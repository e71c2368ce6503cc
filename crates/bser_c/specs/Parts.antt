-- What a tape means in a message: the bytes of each part, by its two words alone.
use Rattle.std.specs.Prelude.{◌≡◌, ℕ, ◌+◌, ◌-◌, ◌/◌, ◌%◌, ◌^◌, min, nat_le, List, [], ◌∷◌, ◌++◌, length, take, drop, Option, Some, None, option_map, ◌==◌, if◌then◌else◌}
use Rattle.std.specs.Int.{w32, w64, to_le_bytes, cast_signed}
use Rattle.bser_format.specs.Canonical.{least_integer, least_count}

-- the string of so many bytes that begins there, under a tag, with its length
abbrev pub string_part : List ℕ → ℕ → ℕ → ℕ → Option (List ℕ)
string_part strings tag count at =
    if nat_le (at + count) (length strings) then Some (tag ∷ (least_count count ++ take count (drop at strings)))
    else None

-- the bytes of a part, by the count and the tag of its first word, and its second word
abbrev pub part_of : List ℕ → ℕ → ℕ → ℕ → Option (List ℕ)
part_of strings second count tag =
    if tag == 0x00 then Some (0x00 ∷ least_count count)
    else if tag == 0x01 then Some (0x01 ∷ least_count count)
    else if tag == 0x02 then string_part strings 0x02 count second
    else if tag == 0x06 then Some (least_integer (cast_signed w64 second))
    else if tag == 0x07 then Some (0x07 ∷ to_le_bytes w64 second)
    else if tag == 0x08 then Some (0x08 ∷ [])
    else if tag == 0x09 then Some (0x09 ∷ [])
    else if tag == 0x0a then Some (0x0a ∷ [])
    else if tag == 0x0b then Some (0x0b ∷ 0x00 ∷ least_count count)
    else if tag == 0x0c then Some (0x0c ∷ [])
    else if tag == 0x0d then string_part strings 0x0d count second
    else if tag == 0x0e then string_part strings 0x0d count second
    else if tag == 0x0f then string_part strings 0x02 count second
    else if tag == 0x10 then Some (least_count count)
    else if tag == 0x11 then Some []
    else None

-- the bytes of the part that two words mean, or none where they mean nothing
abbrev pub part : List ℕ → ℕ → ℕ → Option (List ℕ)
part strings first second = part_of strings second (first / 256) (first % 256)

-- two parts, one after the other
abbrev pub joined : Option (List ℕ) → Option (List ℕ) → Option (List ℕ)
joined None b = None
joined (Some a) b = option_map (λ x. a ++ x) b

-- the bytes of the parts that the words mean, one after the other, or none where two words mean
-- nothing
abbrev pub parts : List ℕ → List ℕ → Option (List ℕ)
parts strings [] = Some []
parts strings (first ∷ []) = Some []
parts strings (first ∷ second ∷ words) = joined (part strings first second) (parts strings words)

-- the words mean so many bytes, counted up to the greatest usize
abbrev pub TellSize : List ℕ → List ℕ → ℕ → Type 0
TellSize strings words size = (body : List ℕ) × (parts strings words ≡ Some body) × (size ≡ min (length body) (2 ^ 64 - 1))

-- the header of a message without capabilities, and with a body of so many bytes
abbrev pub header_of : ℕ → List ℕ
header_of n = 0x00 ∷ 0x02 ∷ (to_le_bytes w32 0 ++ least_count n)

-- the message without capabilities, and with this body
abbrev pub with_header : List ℕ → List ℕ
with_header body = header_of (length body) ++ body

-- how many bytes it has, at most the greatest usize
abbrev pub size_with_header : List ℕ → ℕ
size_with_header body = min (length (with_header body)) (2 ^ 64 - 1)
