-- What callers see of a description.
use Rattle.std.specs.Prelude.{◌≡◌, ◌≤◌, ◌-◌, ◌==◌, ◌&&◌, ℕ, ℤ, pos, negsuc, min, List, Bool, true, false, Option, Some, None, Result, Ok, Err, is_none, option_map, if◌then◌else◌}
use Rattle.bser_format.specs.EnumName.{kept}
use Rattle.bser_format.specs.declared.errors.Error.{Error}
use Rattle.bser_format.specs.declared.errors.Error.TheVariants.{DeCustom, DeInvalidStartByte, DeReaderError, DeRecursionLimitExceeded}
use Rattle.bser_format.specs.declared.errors.Kind.TheVariants.{NextItem}
use Rattle.bser_format.specs.declared.errors.ReadCause.TheVariants.{Eof, Utf8}
use Rattle.bser_deserializer.specs.declared.note.Note.{Note}
use Rattle.bser_messages.specs.declared.counted.CountedSource.{CountedSource}
use Rattle.bser_messages.specs.declared.description.Description.{Description}

-- the source whose bytes are counted
abbrev pub inner_of : {S : Type 0} → CountedSource S → S
inner_of c = c.inner

-- the error of reading
abbrev pub cause_of : Description → Error
cause_of d = d.cause

-- how many bytes of the message lie before the place
abbrev pub place_of : Description → ℕ
place_of d = d.place

-- what was found
abbrev pub note_of : Description → Note
note_of d = d.note

-- whether a field may be to blame: its value is of another type, no text, or too deep
abbrev pub blames_a_field : Error → Bool
blames_a_field (DeReaderError Utf8) = true
blames_a_field (DeCustom _) = true
blames_a_field (DeInvalidStartByte _ _) = true
blames_a_field (DeRecursionLimitExceeded _) = true
blames_a_field _ = false

-- the name of the field that is to blame, as far as it was kept
abbrev pub field_of : Description → Option (List ℕ)
field_of d = if blames_a_field (cause_of d) then option_map kept (note_of d).field else None

-- the answer of a call without descriptions
abbrev pub caused : {A : Type 0} → Result A Description → Result A Error
caused (Ok v) = Ok v
caused (Err d) = Err (cause_of d)

-- the input ended before what was wanted
abbrev pub is_early_end : Error → Bool
is_early_end (DeReaderError Eof) = true
is_early_end _ = false

-- a count of bytes, and no more than len
abbrev pub at_most : ℤ → ℕ → ℕ
at_most (pos n) len = min n len
at_most (negsuc n) len = len

-- the last byte taken is wrong: a skip where any value is read, which notes nothing
abbrev pub is_taken : Error → Note → Bool
is_taken (DeInvalidStartByte NextItem b) n = (b == 0x0c) && is_none n.finding
is_taken _ n = false

-- the bytes before what is wrong, where it was taken whole, or else those that were taken
abbrev pub before : Option ℕ → ℤ → ℕ → ℕ
before (Some begun) count len = min begun len
before None count len = at_most count len

-- the place of an error with this cause and note, after count bytes of an input of len bytes. It is
-- where the value begins that the type does not take. An early end is at the end of the input, and
-- nothing is behind it.
abbrev pub place_in : Error → Note → ℤ → ℕ → ℕ
place_in cause note count len =
    if is_early_end cause then len
    else if is_taken cause note then before note.begun count len - 1
    else before note.begun count len

-- the place is one of len bytes or right behind them, which is that of an early end
pub record LiesWithin (len : ℕ) (d : Description) : Type 0 where
  pub place : place_of d ≤ len
  pub end : cause_of d ≡ DeReaderError Eof → place_of d ≡ len
