-- The parts up to here are passed.
use Rattle.std.proofs.Common.{◌*◌, ◌+◌, ◌-◌}
use Rattle.bser_format.specs.Named.{text_of, entry_of, field_of, with_text_keys}
use Rattle.bser_format.specs.declared.errors.Kind.TheVariants.{MapKey}
use Rattle.bser_events.proofs.Binds.{ReadsOn}
use Rattle.bser_serde_format.proofs.values.+value.Given as goal

abbrev pub decreases-value : goal.decreases-value
decreases-value l = l.levels * 8 + 1

abbrev pub decreases-container : goal.decreases-container
decreases-container l = l.levels * 8

abbrev pub decreases-items : goal.decreases-items
decreases-items l = l.levels * 8 + 2

abbrev pub decreases-entries : goal.decreases-entries
decreases-entries l = l.levels * 8 + 3

abbrev pub decreases-entry : goal.decreases-entry
decreases-entry l = l.levels * 8 + 2

abbrev pub decreases-template : goal.decreases-template
decreases-template l = l.levels * 8 + 5

abbrev pub decreases-fields : goal.decreases-fields
decreases-fields l = l.levels * 8 + 4

abbrev pub decreases-field : goal.decreases-field
decreases-field l = l.levels * 8 + 3

abbrev pub decreases-any_field : goal.decreases-any_field
decreases-any_field l = l.levels * 8 + 2

abbrev pub invariant-items-loop : goal.invariant-items-loop
invariant-items-loop l = ReadsOn (with_text_keys l.levels) l.count l.bytes (l.count - l.counter) l.rest

abbrev pub invariant-entries-loop : goal.invariant-entries-loop
invariant-entries-loop l = ReadsOn (entry_of (text_of MapKey) (with_text_keys l.levels)) l.count l.bytes (l.count - l.counter) l.rest

abbrev pub invariant-fields-loop : goal.invariant-fields-loop
invariant-fields-loop l = ReadsOn (field_of (with_text_keys l.levels)) l.count l.bytes (l.count - l.counter) l.rest
