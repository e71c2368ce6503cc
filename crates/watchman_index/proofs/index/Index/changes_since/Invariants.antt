use Rattle.std.proofs.Common.{◌≡◌, map, filter, ◌++◌}
use Rattle.std.specs.Map.Iter.{deref_pair}
use Rattle.watchman_index.specs.Tables.{of_name, is_since}
use Rattle.watchman_index.proofs.index.Index.changes_since.Given as goal

abbrev pub invariant-loop-name : goal.invariant-loop-name
invariant-loop-name l =
    map deref_pair l.files.items
    ++ filter (λ e. is_since (of_name l.fn.self.clocks l.fn.clock) e.1) l.name-iterator
    ≡ filter (λ e. is_since (of_name l.fn.self.clocks l.fn.clock) e.1) l.fn.self.files.entries
