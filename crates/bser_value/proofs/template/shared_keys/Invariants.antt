use Rattle.std.proofs.Common.{◌≡◌, drop}
use Rattle.bser_value.specs.CompactTexts.{names_of}
use Rattle.bser_value.proofs.Folding.{all_have}
use Rattle.bser_value.proofs.template.shared_keys.Given as goal

abbrev pub invariant-loop-item : goal.invariant-loop-item
invariant-loop-item l = all_have (names_of l.first.entries) (drop l.item-index l.rest) ≡ all_have (names_of l.first.entries) l.rest
