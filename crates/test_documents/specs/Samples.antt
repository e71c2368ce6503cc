-- Byte lists and trees of known meaning.
use Rattle.std.specs.Prelude.{ℕ, zero, suc, pos, List, [], ◌∷◌, ◌++◌, replicate}
use Rattle.bser_format.specs.Tree.{Tree, null, integer, array, object, no_items, item, no_entries, entry, items_of}

-- the header and the four bytes of no capability
abbrev pub header : List ℕ
header = 0x00 ∷ 0x02 ∷ 0x00 ∷ 0x00 ∷ 0x00 ∷ 0x00 ∷ []

-- a message of a body whose length is one byte
abbrev pub short_message : ℕ → List ℕ → List ℕ
short_message n body = header ++ (0x03 ∷ n ∷ body)

-- a message of a body whose length is two bytes, the lower first
abbrev pub long_message : ℕ → ℕ → List ℕ → List ℕ
long_message low high body = header ++ (0x04 ∷ low ∷ high ∷ body)

-- the key `a`
abbrev pub key_a : List ℕ
key_a = 0x61 ∷ []

-- the key `b`
abbrev pub key_b : List ℕ
key_b = 0x62 ∷ []

-- the integer 1
abbrev pub one : Tree
one = integer (pos 1)

-- the integer 2
abbrev pub two : Tree
two = integer (pos 2)

-- the integer 3
abbrev pub three : Tree
three = integer (pos 3)

-- n nulls
abbrev pub nulls : ℕ → Tree
nulls n = array (items_of (replicate n null))

-- an object of one entry
abbrev pub single : List ℕ → Tree → Tree
single k t = object (entry k t no_entries)

-- an object of two entries
abbrev pub double : List ℕ → Tree → List ℕ → Tree → Tree
double k t l u = object (entry k t (entry l u no_entries))

-- an array of two items
abbrev pub both : Tree → Tree → Tree
both t u = array (item t (item u no_items))

-- the key `a` with 1, and again with 2
abbrev pub same_key_twice : List ℕ
same_key_twice = 0x01 ∷ 0x03 ∷ 0x02 ∷ 0x0d ∷ 0x03 ∷ 0x01 ∷ 0x61 ∷ 0x03 ∷ 0x01 ∷ 0x0d ∷ 0x03 ∷ 0x01 ∷ 0x61 ∷ 0x03 ∷ 0x02 ∷ []

-- an array of 1, 2 and 3
abbrev pub three_numbers : List ℕ
three_numbers = 0x00 ∷ 0x03 ∷ 0x03 ∷ 0x03 ∷ 0x01 ∷ 0x03 ∷ 0x02 ∷ 0x03 ∷ 0x03 ∷ []

-- its tree
abbrev pub numbers : Tree
numbers = array (item one (item two (item three no_items)))

-- an object with null under a key of one byte, which is no UTF-8
abbrev pub odd_key : List ℕ
odd_key = 0x01 ∷ 0x03 ∷ 0x01 ∷ 0x02 ∷ 0x03 ∷ 0x01 ∷ 0xff ∷ 0x0a ∷ []

-- an array of no items
abbrev pub empty_array : List ℕ
empty_array = 0x00 ∷ 0x03 ∷ 0x00 ∷ []

-- n arrays of one item, one inside the other, around these bytes
abbrev pub arrays_around : ℕ → List ℕ → List ℕ
arrays_around zero b = b
arrays_around (suc n) b = 0x00 ∷ 0x03 ∷ 0x01 ∷ arrays_around n b

-- n arrays of one item, one inside the other, around this tree
abbrev pub nest : ℕ → Tree → Tree
nest zero t = t
nest (suc n) t = array (item (nest n t) no_items)
