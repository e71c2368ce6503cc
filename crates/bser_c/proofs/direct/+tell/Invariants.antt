-- The parts up to here are told.
use Rattle.std.proofs.Common.{◌+◌, ◌-◌, ◌*◌}
use Rattle.bser_format.specs.Named.{entry_of, field_of, many, text_of, with_text_keys}
use Rattle.bser_format.specs.Tree.{entries_of, fields_of, items_of, rows_of}
use Rattle.bser_format.specs.declared.errors.Kind.TheVariants.{MapKey}
use Rattle.bser_events.specs.Events.{entry_events, field_events, item_events, row_events}
use Rattle.bser_c.proofs.Between.{ToldOn}
use Rattle.bser_c.proofs.direct.+tell.Given as goal

abbrev pub decreases-array : goal.decreases-array
decreases-array g l = l.levels * 5

abbrev pub decreases-object : goal.decreases-object
decreases-object g l = l.levels * 5

abbrev pub decreases-template : goal.decreases-template
decreases-template g l = l.levels * 5

abbrev pub decreases-value : goal.decreases-value
decreases-value g l = l.levels * 5 + 1

abbrev pub decreases-field : goal.decreases-field
decreases-field g l = l.levels * 5 + 2

abbrev pub decreases-row : goal.decreases-row
decreases-row g l = l.levels * 5 + 3

abbrev pub decreases-rows : goal.decreases-rows
decreases-rows g l = l.levels * 5 + 4

abbrev pub invariant-array-loop : goal.invariant-array-loop
invariant-array-loop g l = ToldOn g.B.Builder.takes (with_text_keys (l.levels - 1)) (λ ts. item_events (items_of ts)) l.bytes l.count l.at l.initial.builder (l.count - l.counter) l.end l.builder

abbrev pub invariant-object-loop : goal.invariant-object-loop
invariant-object-loop g l =
    ToldOn g.B.Builder.takes (entry_of (text_of MapKey) (with_text_keys (l.levels - 1))) (λ es. entry_events (entries_of es)) l.bytes l.count l.at l.initial.builder (l.count - l.counter) l.end l.builder

abbrev pub invariant-row-loop : goal.invariant-row-loop
invariant-row-loop g l = ToldOn g.B.Builder.takes (field_of (with_text_keys l.levels)) (λ fs. field_events (fields_of fs)) l.bytes l.width l.start l.fn.builder (l.width - l.counter) l.end l.builder

abbrev pub invariant-rows-loop : goal.invariant-rows-loop
invariant-rows-loop g l =
    ToldOn g.B.Builder.takes (many (field_of (with_text_keys l.levels)) l.width) (λ rs. row_events (rows_of rs)) l.bytes l.height l.start l.fn.builder (l.height - l.counter) l.end l.builder
