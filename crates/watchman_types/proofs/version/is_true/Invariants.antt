use Rattle.std.proofs.Common.{◌≡◌}
use Rattle.watchman_types.specs.Capabilities.{one_is_true}
use Rattle.watchman_types.proofs.version.is_true.Given as goal

abbrev pub invariant-loop-key : goal.invariant-loop-key
invariant-loop-key g l = one_is_true g.S.MapKey.name l.key-iterator l.name ≡ one_is_true g.S.MapKey.name l.told.entries l.name
