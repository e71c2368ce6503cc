-- The keys up to here were looked at.
use Rattle.std.proofs.Common.{◌≡◌, ℕ, List, drop}
use Rattle.bser_document.specs.Rows.{HoldsRows, Pair, place_from, place_of}
use Rattle.bser_document.proofs.rows.Rows.place.Given as goal

abbrev pub invariant-loop-place : goal.invariant-loop-place
invariant-loop-place l = (ks : List (List ℕ)) (ms : List (List Pair)) → HoldsRows l.fn.self ks ms → place_from l.found l.place l.key (drop l.place ks) ≡ place_of l.key ks
