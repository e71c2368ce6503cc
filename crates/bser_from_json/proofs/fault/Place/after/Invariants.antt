-- The place is behind the lines that are passed.
use Rattle.std.proofs.Common.{◌≡◌, ◌<◌, ◌^◌, length}
use Rattle.bser_from_json.specs.Lines.{behind_bytes}
use Rattle.bser_from_json.proofs.fault.Place.after.Given as goal

abbrev pub invariant-loop-end : goal.invariant-loop-end
invariant-loop-end l = record {
  passed : behind_bytes l.fn.self l.bytes ≡ behind_bytes l.place l.rest;
  fits : l.place.column < 2 ^ 64;
}

abbrev pub decreases-loop-end : goal.decreases-loop-end
decreases-loop-end l = length l.rest
