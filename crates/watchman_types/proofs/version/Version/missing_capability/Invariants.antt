use Rattle.std.proofs.Common.{◌≡◌, drop}
use Rattle.watchman_types.specs.Capabilities.{first_missing}
use Rattle.watchman_types.proofs.version.Version.missing_capability.Given as goal

abbrev pub invariant-loop-name : goal.invariant-loop-name
invariant-loop-name g l = first_missing g.S.MapKey.name l.self.capabilities (drop l.name-index l.required) ≡ first_missing g.S.MapKey.name l.self.capabilities l.required
