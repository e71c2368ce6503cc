-- The keys up to here are in the map, each with its last place.
use Rattle.std.proofs.Common.{◌≡◌, ℕ, List, drop, fold}
use Rattle.bser_document.specs.Order.{placed_from, last_places, shown}
use Rattle.bser_document.specs.Rows.{HoldsRows, Pair}
use Rattle.bser_document.proofs.Orders.{put_place}
use Rattle.bser_document.proofs.rows.Rows.places.Given as goal

abbrev pub invariant-loop-place : goal.invariant-loop-place
invariant-loop-place l = (ks : List (List ℕ)) (ms : List (List Pair)) → HoldsRows l.fn.self ks ms → fold put_place (shown l.places.entries) (placed_from l.place (drop l.place ks)) ≡ last_places ks
