-- The fault is that of the rest.
use Rattle.std.proofs.Common.{◌≡◌, length, false}
use Rattle.bser_from_json.specs.Places.{string_fault}
use Rattle.bser_from_json.proofs.fault.string_fault.Given as goal

abbrev pub invariant-bytes : goal.invariant-bytes
invariant-bytes l = string_fault false false l.fn.rest ≡ string_fault l.is_escaped l.is_paired l.rest

abbrev pub decreases-bytes : goal.decreases-bytes
decreases-bytes l = length l.rest
