-- What is made of a JSON text, token by token.
use Rattle.std.specs.Prelude.{ℕ, ℤ, pos, negsuc, suc, ◌-◌, ◌^◌, List, [], ◌∷◌, ◌++◌, length, drop, Bool, true, false, not, ◌&&◌, ◌==◌, nat_lt, Option, Some, None, Result, Ok, Err, Float, codes, is_some, to_bits, slice_index, if◌then◌else◌}
use Rattle.std.specs.BTreeMap.{insert_entry}
use Rattle.std.specs.Char.{digit_value}
use Rattle.std.specs.Cmp.Lexicographic.{slice_cmp}
use Rattle.std.specs.Float.{binary64, float_is_finite}
use Rattle.std.specs.Float.Parse.{parse_float}
use Rattle.std.specs.Int.{w64, from_be_bytes}
use Rattle.std.specs.List.{list_all}
use Rattle.std.specs.Map.{lookup}
use Rattle.std.specs.Ordering.{nat_cmp}
use Rattle.std.specs.Str.{bytes_eq}
use Rattle.std.specs.Str.Parse.{signed_digits_value, without_leading_sign}
use Rattle.hex.specs.Hex.{decode_of}
use Rattle.hex.specs.declared.error.FromHexError.{FromHexError}
use Rattle.json.specs.Token as tokens
use Rattle.bser_format.specs.RealText.{has_point_or_e}
use Rattle.bser_format.specs.Tree.{Tree, null, boolean, integer, real, bytes, text, array, object, items_of, entries_of}
use Rattle.bser_from_json.specs.declared.fault.JsonFault.{JsonFault}
use Rattle.bser_from_json.specs.declared.fault.JsonFault.TheVariants as faults
use Rattle.bser_from_json.specs.declared.reading.Strings.{Strings}
use Rattle.bser_from_json.specs.declared.reading.Strings.TheVariants as strings
use Rattle.bser_from_json.specs.declared.meaning.Mark.{Mark}
use Rattle.bser_from_json.specs.declared.meaning.Mark.TheVariants as marks

-- ---- a number

-- whether a number is an integer: it has no point and no exponent, and is not `-0`
abbrev pub is_whole : List ℕ → Bool
is_whole s = not (bytes_eq s (codes "-0")) && not (has_point_or_e s)

abbrev pub is_digit : ℕ → Bool
is_digit c = nat_lt (digit_value c) 10

abbrev pub is_numeral : List ℕ → Bool
is_numeral ds = nat_lt 0 (length ds) && list_all is_digit ds

-- whether 64 bits with a sign hold the number
abbrev pub is_held : ℤ → Bool
is_held (pos n) = nat_lt n (2 ^ 63)
is_held (negsuc n) = nat_lt n (2 ^ 63)

abbrev pub integer_made : List ℕ → Result Tree JsonFault
integer_made s =
    if is_numeral (without_leading_sign s) && is_held (signed_digits_value 10 s) then Ok (integer (signed_digits_value 10 s))
    else Err faults.IntegerTooGreat

abbrev pub float_made : Option Float → Result Tree JsonFault
float_made (Some x) = if float_is_finite x then Ok (real (to_bits binary64 x)) else Err faults.RealTooGreat
float_made None = Err faults.RealTooGreat

-- the integer or the nearest real of a number's text
abbrev pub number_made : List ℕ → Result Tree JsonFault
number_made s = if is_whole s then integer_made s else float_made (parse_float binary64 s)

-- ---- a string

-- a string, under the tag that is asked for
abbrev pub string_made : Strings → List ℕ → Tree
string_made strings.Texts s = text s
string_made strings.Bytes s = bytes s

-- ---- marks

-- the key that makes an object the mark of bytes or of a real
abbrev pub mark_key : Mark → List ℕ
mark_key marks.Bytes = codes "$bytes"
mark_key marks.Real = codes "$real"

abbrev pub mark_of : List ℕ → Option Mark
mark_of k = if bytes_eq k (mark_key marks.Bytes) then Some marks.Bytes else if bytes_eq k (mark_key marks.Real) then Some marks.Real else None

abbrev pub mark_fault : Mark → JsonFault
mark_fault marks.Bytes = faults.WrongBytes
mark_fault marks.Real = faults.WrongReal

abbrev pub bytes_made : Result (List ℕ) FromHexError → Option Tree
bytes_made (Ok bs) = Some (bytes bs)
bytes_made (Err e) = None

abbrev pub real_made : Result (List ℕ) FromHexError → Option Tree
real_made (Ok bs) = Some (real (from_be_bytes w64 bs))
real_made (Err e) = None

-- the bytes that a string has in hexadecimal, and the real whose bits it has in sixteen digits
abbrev pub digits_made : Mark → List ℕ → Option Tree
digits_made marks.Bytes s = bytes_made (decode_of s)
digits_made marks.Real s = if length s == 16 then real_made (decode_of s) else None

abbrev pub marked_made : Mark → tokens.Token → Option Tree
marked_made m (tokens.string s) = digits_made m s
marked_made m _ = None

-- ---- keys

abbrev pub begins_with_dollar : List ℕ → Bool
begins_with_dollar k = slice_index k 0 == 36

-- why a key that begins with one `$` is no name
abbrev pub dollar_fault : List ℕ → JsonFault
dollar_fault k = if is_some (mark_of k) then faults.MarkWithMembers else faults.UnknownMark

-- the name that a key stands for: of two `$` at its front, one
abbrev pub name_of : List ℕ → Result (List ℕ) JsonFault
name_of k = if begins_with_dollar k then (if begins_with_dollar (drop 1 k) then Ok (drop 1 k) else Err (dollar_fault k)) else Ok k

abbrev pub has_key : List ℕ → List (List ℕ × Tree) → Bool
has_key k es = is_some (lookup (bytes_eq k) es)

abbrev pub new_name : List (List ℕ × Tree) → Result (List ℕ) JsonFault → Result (List ℕ) JsonFault
new_name es (Ok k) = if has_key k es then Err faults.EqualKeys else Ok k
new_name es (Err f) = Err f

-- ---- what a token does

-- a container that is open, with what stands before in it: items, or entries and a name
pub data Around : Type 0 where
  in_array : List Tree → Around
  in_object : List (List ℕ × Tree) → List ℕ → Around

-- what is due next inside of these: a value; an item or the end of an array; the first member or the end
-- of an object; a further one behind these entries; the string of a mark; the end of a mark; or nothing
pub data Due : Type 0 where
  a_value : List Around → Due
  an_item : List Tree → List Around → Due
  a_first_member : List Around → Due
  a_member : List (List ℕ × Tree) → List Around → Due
  a_string : Mark → List Around → Due
  an_end : Tree → List Around → Due
  nothing : Tree → Due

-- what a token does: something is due behind it; or it is refused; or the one before it is; or what stands
-- right behind it is; or what stands right behind the one before it
pub data Step : Type 0 where
  goes_on : Due → Step
  stops : JsonFault → Step
  stops_before : JsonFault → Step
  breaks_behind : Step
  breaks_before : Step

-- a value is put into what is around it
abbrev pub put : Tree → List Around → Due
put u [] = nothing u
put u (in_array us ∷ os) = an_item (us ++ u ∷ []) os
put u (in_object es k ∷ os) = a_member (insert_entry (slice_cmp nat_cmp) es k u) os

abbrev pub most_levels : ℕ
most_levels = 128

-- whether a container may be inside of these
abbrev pub has_level : List Around → Bool
has_level os = nat_lt (length os) most_levels

abbrev pub put_made : List Around → Result Tree JsonFault → Step
put_made os (Ok u) = goes_on (put u os)
put_made os (Err f) = stops f

abbrev pub value_step : Strings → List Around → tokens.Token → Step
value_step s os tokens.null = goes_on (put null os)
value_step s os (tokens.boolean b) = goes_on (put (boolean b) os)
value_step s os (tokens.number t) = put_made os (number_made t)
value_step s os (tokens.string t) = goes_on (put (string_made s t) os)
value_step s os tokens.begin_array = if has_level os then goes_on (an_item [] os) else stops faults.TooDeep
value_step s os tokens.begin_object = goes_on (a_first_member os)
value_step s os (tokens.key k) = breaks_behind
value_step s os _ = stops faults.NotJson

abbrev pub item_step : Strings → List Tree → List Around → tokens.Token → Step
item_step s us os tokens.end_array = goes_on (put (array (items_of us)) os)
item_step s us os t = value_step s (in_array us ∷ os) t

abbrev pub named_step : List (List ℕ × Tree) → List Around → Result (List ℕ) JsonFault → Step
named_step es os (Ok k) = goes_on (a_value (in_object es k ∷ os))
named_step es os (Err f) = stops f

abbrev pub member_step : List (List ℕ × Tree) → List Around → tokens.Token → Step
member_step es os tokens.end_object = goes_on (put (object (entries_of es)) os)
member_step es os (tokens.key k) = named_step es os (new_name es (name_of k))
member_step es os (tokens.string k) = breaks_behind
member_step es os _ = stops faults.NotJson

-- an object that is no mark has a level
abbrev pub object_step : List Around → tokens.Token → Step
object_step os t = if has_level os then member_step [] os t else stops_before faults.TooDeep

-- what a token marks, if it is the key of a mark
abbrev pub mark_in : tokens.Token → Option Mark
mark_in (tokens.key k) = mark_of k
mark_in _ = None

abbrev pub unless_mark : List Around → tokens.Token → Option Mark → Step
unless_mark os t (Some m) = goes_on (a_string m os)
unless_mark os t None = object_step os t

abbrev pub first_step : List Around → tokens.Token → Step
first_step os t = unless_mark os t (mark_in t)

abbrev pub end_due : Mark → List Around → Option Tree → Step
end_due m os (Some u) = goes_on (an_end u os)
end_due m os None = stops (mark_fault m)

abbrev pub end_step : Tree → List Around → tokens.Token → Step
end_step u os tokens.end_object = goes_on (put u os)
end_step u os _ = stops faults.MarkWithMembers

abbrev pub step : Strings → Due → tokens.Token → Step
step s (a_value os) t = value_step s os t
step s (an_item us os) t = item_step s us os t
step s (a_first_member os) t = first_step os t
step s (a_member es os) t = member_step es os t
step s (a_string m os) t = end_due m os (marked_made m t)
step s (an_end u os) t = end_step u os t
step s (nothing u) t = breaks_before

-- ---- what a text comes to

-- a tree is made; or a token of this number is refused, from 1 on; or behind so many, each with its comma or
-- colon, there is none; or right behind so many stands what may not
pub data Outcome : Type 0 where
  makes : Tree → Outcome
  refuses : JsonFault → ℕ → Outcome
  lacks : ℕ → Outcome
  breaks : ℕ → Outcome

abbrev pub is_bad : tokens.Token → Bool
is_bad tokens.bad = true
is_bad _ = false

-- where there is no token: behind a whole value nothing may stand
abbrev pub unmet : ℕ → Due → Outcome
unmet n (nothing u) = breaks n
unmet n _ = lacks n

-- where no token is left
abbrev pub at_end : ℕ → Due → Outcome
at_end n (nothing u) = makes u
at_end n d = unmet n d

-- the token of this number did this, and then `on` what is due follows
abbrev pub follow : ℕ → Step → (Due → Outcome) → Outcome
follow n (goes_on d) on = on d
follow n (stops f) on = refuses f n
follow n (stops_before f) on = refuses f (n - 1)
follow n breaks_behind on = breaks n
follow n breaks_before on = breaks (n - 1)

-- behind so many tokens this is due, and these are left
unfoldable pub run : Strings → ℕ → Due → List tokens.Token → Outcome
run s n d [] = at_end n d
run s n d (t ∷ ts) = if is_bad t then unmet n d else follow (suc n) (step s d t) (λ e. run s (suc n) e ts)

-- what the tokens of a text make
abbrev pub made : Strings → List tokens.Token → Outcome
made s ts = run s 0 (a_value []) ts
