-- What events are, without their content, and the tags that they begin with.
use Rattle.std.specs.Prelude.{ℕ, ◌-◌, Bool, true, false, length, Option, Some, None}
use Rattle.bser_format.specs.HeaderBytes.{integer_tag}
use Rattle.bser_events.specs.Events.{Event, null, boolean, integer, real, bytes, text, open_array, open_object, key, open_template, open_rows, skip, close}
use Rattle.bser_events.specs.declared.event.EventKind.{EventKind}
use Rattle.bser_events.specs.declared.event.EventKind.TheVariants as kinds
use Rattle.bser_events.specs.declared.event.Place.{Place}

-- what an event is, without its content
abbrev pub kind_of : Event → EventKind
kind_of null = kinds.Null
kind_of (boolean v) = kinds.Bool
kind_of (integer v) = kinds.Int
kind_of (real r) = kinds.Real
kind_of (bytes s) = kinds.Bytes
kind_of (text s) = kinds.Text
kind_of (open_array n) = kinds.Array
kind_of (open_object n) = kinds.Object
kind_of (key s) = kinds.Key
kind_of (open_template n) = kinds.Template
kind_of (open_rows n) = kinds.Rows
kind_of skip = kinds.Skip
kind_of close = kinds.Close

-- the place of a kind among all kinds
abbrev pub index_of : EventKind → ℕ
index_of kinds.Null = 0
index_of kinds.Bool = 1
index_of kinds.Int = 2
index_of kinds.Real = 3
index_of kinds.Bytes = 4
index_of kinds.Text = 5
index_of kinds.Array = 6
index_of kinds.Object = 7
index_of kinds.Key = 8
index_of kinds.Template = 9
index_of kinds.Rows = 10
index_of kinds.Skip = 11
index_of kinds.Close = 12

-- the tag of a key, which is spelled as a text or as a byte string
abbrev pub key_tag : Bool → ℕ
key_tag true = 0x0d
key_tag false = 0x02

-- the tag that an event begins with, if it is at this place
abbrev pub tag_of : Event → Place → Option ℕ
tag_of null p = Some 0x0a
tag_of (boolean true) p = Some 0x08
tag_of (boolean false) p = Some 0x09
tag_of (integer v) p = Some (integer_tag (p.end - p.start - 1))
tag_of (real r) p = Some 0x07
tag_of (bytes s) p = Some 0x02
tag_of (text s) p = Some 0x0d
tag_of (open_array n) p = Some 0x00
tag_of (open_object n) p = Some 0x01
tag_of (key s) p = Some (key_tag p.is_text)
tag_of (open_template n) p = Some 0x0b
tag_of (open_rows n) p = None
tag_of skip p = Some 0x0c
tag_of close p = None

-- how many bytes a string or a key has, or how many parts follow
abbrev pub count_of : Event → ℕ
count_of (bytes s) = length s
count_of (text s) = length s
count_of (open_array n) = n
count_of (open_object n) = n
count_of (key s) = length s
count_of (open_template n) = n
count_of (open_rows n) = n
count_of _ = 0
