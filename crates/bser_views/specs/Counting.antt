-- What a message has, by its events.
use Rattle.std.specs.Prelude.{ℕ, ◌+◌, ◌-◌, ◌^◌, min, max, List, [], ◌∷◌, set, slice_index, replicate}
use Rattle.bser_events.specs.Events.{Event, open_rows}
use Rattle.bser_events.specs.Kinds.{index_of, kind_of}
use Rattle.bser_events.specs.declared.event.EventKind.{EventKind}
use Rattle.bser_events.specs.declared.event.EventKind.TheVariants as kinds
use Rattle.bser_views.specs.declared.counts.Kinds.{Kinds}
use Rattle.bser_views.specs.declared.counts.Counts.{Counts}

-- the sum, or where it does not fit 64 bits the greatest number that does
abbrev pub sum_within : ℕ → ℕ → ℕ
sum_within a b = min (a + b) (2 ^ 64 - 1)

-- the number of this kind
abbrev pub number_of : EventKind → Kinds → ℕ
number_of kind k = slice_index k.numbers (index_of kind)

-- the numbers, with so many more of this kind
abbrev pub added : EventKind → ℕ → Kinds → Kinds
added kind n k = record k { numbers = set k.numbers (index_of kind) (sum_within (number_of kind k) n) }

-- how many rows of a template follow
abbrev pub rows_in : Event → ℕ
rows_in (open_rows n) = n
rows_in _ = 0

-- one value more
abbrev pub with_node : Counts → Counts
with_node c = record c { nodes = sum_within c.nodes 1 }

-- one container more is open, which is a value
abbrev pub with_container : Counts → Counts
with_container c = record (with_node c) { around = sum_within c.around 1; depth = max c.depth (sum_within c.around 1) }

-- what an event of this kind changes beside the numbers: keys and rows are no values, an end closes
-- a container, and all else is a value
abbrev pub placed : EventKind → Counts → Counts
placed kinds.Key c = c
placed kinds.Rows c = c
placed kinds.Close c = record c { around = c.around - 1 }
placed kinds.Array c = with_container c
placed kinds.Object c = with_container c
placed kinds.Template c = with_container c
placed _ c = with_node c

-- what an event makes of the counts
abbrev pub counted : Event → Counts → Counts
counted e c = placed (kind_of e) (record c { kinds = added (kind_of e) 1 c.kinds; rows = sum_within c.rows (rows_in e) })

-- what events make of them, one after the other
abbrev pub counted_all : List Event → Counts → Counts
counted_all [] c = c
counted_all (e ∷ es) c = counted_all es (counted e c)

-- no number but 0
abbrev pub no_kinds : Kinds
no_kinds = record { numbers = replicate 13 0 }

-- nothing was told
abbrev pub nothing_counted : Counts
nothing_counted = record { nodes = 0; depth = 0; rows = 0; kinds = no_kinds; around = 0 }
