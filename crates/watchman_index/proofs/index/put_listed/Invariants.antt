use Rattle.std.proofs.Common.{ℕ, List}
use Rattle.std.specs.List.{IsDistinct}
use Rattle.std.specs.Map.{keys_of}
use Rattle.std.specs.Ordering.{nat_cmp, eq_by_cmp}
use Rattle.std.specs.Cmp.Lexicographic.{slice_cmp}
use Rattle.watchman_index.specs.Tables.{of_name}
use Rattle.watchman_index.proofs.Puts.{at, IsPutUpTo}
use Rattle.watchman_index.proofs.index.put_listed.Given as goal

abbrev pub invariant-loop-name : goal.invariant-loop-name
invariant-loop-name l =
    IsDistinct (eq_by_cmp (slice_cmp nat_cmp)) (keys_of l.name-iterator)
    × ((name : List ℕ) → IsPutUpTo l.number (of_name l.fn.listed name) (at l.name-iterator name)
    (of_name l.initial.files name) (of_name l.files name))
