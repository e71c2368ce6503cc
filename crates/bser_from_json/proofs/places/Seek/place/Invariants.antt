-- The token is where it is from the next byte on.
use Rattle.std.proofs.Common.{◌≡◌, drop}
use Rattle.bser_from_json.specs.Places.{place_from}
use Rattle.bser_from_json.proofs.places.Seek.place.Given as goal

abbrev pub invariant-loop-at : goal.invariant-loop-at
invariant-loop-at l = place_from l.fn.self 0 l.text ≡ place_from l.seek l.at (drop l.at l.text)
