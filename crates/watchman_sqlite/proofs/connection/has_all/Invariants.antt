use Rattle.std.specs.List.{AllWithin}
use Rattle.watchman_sqlite.specs.Layouts.{IsNamed}
use Rattle.watchman_sqlite.proofs.connection.has_all.Given as goal

abbrev pub invariant-loop-name : goal.invariant-loop-name
invariant-loop-name l = AllWithin (λ name. IsNamed l.rows name.now) l.names 0 l.name-index
