use Rattle.std.proofs.Common.{◌≡◌}
use Rattle.bser_format.specs.Compact.{same_keys}
use Rattle.bser_value.specs.CompactTexts.{names_of}
use Rattle.bser_value.proofs.template.are_same_keys.Given as goal

abbrev pub invariant-loop-key : goal.invariant-loop-key
invariant-loop-key l = same_keys (names_of l.key-iterator) (names_of l.rest) ≡ same_keys (names_of l.entries.entries) (names_of l.others.entries)
