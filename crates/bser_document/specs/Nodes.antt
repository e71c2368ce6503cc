-- The nodes of a document, and the bytes of its strings: which events they mean, and where
-- containers end.
use Rattle.std.specs.Prelude.{◌≡◌, ◌≤◌, ◌<◌, ℕ, ◌+◌, ◌-◌, ◌^◌, List, [], ◌∷◌, ◌++◌, length, map, take, drop, get_or, zero, suc, Option, Some, None, IsUtf8, ⊤}
use Rattle.std.specs.List.{AllByRecursion}
use Rattle.bser_events.specs.Events as told
use Rattle.bser_events.specs.Events.{Event}
use Rattle.bser_document.specs.declared.document.DocumentNode.{DocumentNode}
use Rattle.bser_document.specs.declared.document.DocumentNode.TheVariants.{Null, Bool, Int, Real, Bytes, Text, Key, Array, Object, Template, Rows, Skip, Close}

-- so many bytes of the strings, from this place on
abbrev pub piece : List ℕ → ℕ → ℕ → List ℕ
piece s len at = take len (drop at s)

-- the event that a node means
abbrev pub event_of : List ℕ → DocumentNode → Event
event_of s Null = told.null
event_of s (Bool v) = told.boolean v
event_of s (Int v) = told.integer v
event_of s (Real r) = told.real r
event_of s (Bytes len at) = told.bytes (piece s len at)
event_of s (Text len at) = told.text (piece s len at)
event_of s (Key len at) = told.key (piece s len at)
event_of s (Array len end) = told.open_array len
event_of s (Object len end) = told.open_object len
event_of s (Template len end) = told.open_template len
event_of s (Rows len) = told.open_rows len
event_of s Skip = told.skip
event_of s Close = told.close

-- a node's string lies within these bytes
abbrev pub IsInside : List ℕ → ℕ → ℕ → Type 0
IsInside s len at = at + len ≤ length s

-- the same, and it is UTF-8
abbrev pub IsText : List ℕ → ℕ → ℕ → Type 0
IsText s len at = IsInside s len at × IsUtf8 (piece s len at)

-- a node's string lies within these bytes, and a text and a key are UTF-8
abbrev pub Within : List ℕ → DocumentNode → Type 0
Within s (Bytes len at) = IsInside s len at
Within s (Text len at) = IsText s len at
Within s (Key len at) = IsText s len at
Within s _ = Unit {0}

-- how many bytes of strings an event brings
abbrev pub string_len : Event → ℕ
string_len (told.bytes s) = length s
string_len (told.text s) = length s
string_len (told.key s) = length s
string_len _ = 0

-- the same of all of these events
abbrev pub string_lens : List Event → ℕ
string_lens [] = 0
string_lens (e ∷ es) = string_len e + string_lens es

-- how many nodes these events have, and how many bytes of strings
abbrev pub weight : List Event → ℕ
weight es = length es + string_lens es

-- these nodes over these strings mean these events, and no byte is kept beside
pub record Shows (ns : List DocumentNode) (s : List ℕ) (es : List Event) : Type 0 where
  pub same : map (event_of s) ns ≡ es
  pub within : AllByRecursion (Within s) ns
  pub total : length s ≡ string_lens es

-- ---- ends

-- where a container ends
abbrev pub end_of : DocumentNode → Option ℕ
end_of (Array len end) = Some end
end_of (Object len end) = Some end
end_of (Template len end) = Some end
end_of _ = None

-- the ends of the nodes, and the places of the containers that are still without one, the innermost first
pub record Marks : Type 0 where
  pub ends : List (Option ℕ)
  pub around : List ℕ

-- the end of a container is written; no other node has one
abbrev pub with_end : ℕ → Option ℕ → Option ℕ
with_end n None = None
with_end n (Some m) = Some n

-- the end at this place is written
abbrev pub change : List (Option ℕ) → ℕ → ℕ → List (Option ℕ)
change [] at n = []
change (x ∷ xs) zero n = with_end n x ∷ xs
change (x ∷ xs) (suc at) n = x ∷ change xs at n

-- the innermost container ends behind one more node
abbrev pub closed : List (Option ℕ) → List ℕ → Marks
closed ends [] = record { ends = ends ++ None ∷ []; around = [] }
closed ends (at ∷ around) = record { ends = change (ends ++ None ∷ []) at (length ends + 1); around = around }

-- one more node, which is no container
abbrev pub noted : Marks → Marks
noted m = record { ends = m.ends ++ None ∷ []; around = m.around }

-- the place of the innermost of these containers, and no node's where there is none
abbrev pub innermost : List ℕ → ℕ
innermost [] = 2 ^ 64 - 1
innermost (at ∷ around) = at

-- one more container, which is the innermost then: it has the one around it in the place of its end
abbrev pub begun : Marks → Marks
begun m = record { ends = m.ends ++ Some (innermost m.around) ∷ []; around = length m.ends ∷ m.around }

-- what an event makes of the ends
abbrev pub mark : Event → Marks → Marks
mark (told.open_array n) m = begun m
mark (told.open_object n) m = begun m
mark (told.open_template n) m = begun m
mark told.close m = closed m.ends m.around
mark _ m = noted m

-- one event after the other
abbrev pub marks : List Event → Marks → Marks
marks [] m = m
marks (e ∷ es) m = marks es (mark e m)

-- nothing was reported
abbrev pub unmarked : Marks
unmarked = record { ends = []; around = [] }

-- these nodes have the ends that the events give, and this is the innermost container
pub record Marked (ns : List DocumentNode) (at : ℕ) (es : List Event) : Type 0 where
  pub ends : map end_of ns ≡ (marks es unmarked).ends
  pub here : at ≡ innermost (marks es unmarked).around

-- containers before the n-th node, each behind the one around it, which it has in the place of its end
abbrev pub Linked : ℕ → List (Option ℕ) → List ℕ → Type 0
Linked n ends [] = ⊤
Linked n ends (at ∷ around) = (at < n) × (get_or ends at None ≡ Some (innermost around)) × Linked at ends around

-- the innermost of these containers was closed
pub record ClosesTo (ns ms : List DocumentNode) (around : List ℕ) (at : ℕ) : Type 0 where
  pub ends : map end_of ms ≡ (closed (map end_of ns) around).ends
  pub here : at ≡ innermost (closed (map end_of ns) around).around

-- the innermost container was closed
abbrev pub ClosesNodes : List DocumentNode → List DocumentNode → ℕ → ℕ → Type 0
ClosesNodes ns ms at outer =
    (around : List ℕ) → at ≡ innermost around → Linked (length ns) (map end_of ns) around → ClosesTo ns ms around outer

-- nodes that mean equal events
pub record SameEvents (old new : List DocumentNode) : Type 0 where
  pub same : (s : List ℕ) → map (event_of s) new ≡ map (event_of s) old
  pub within : (s : List ℕ) → AllByRecursion (Within s) old → AllByRecursion (Within s) new
