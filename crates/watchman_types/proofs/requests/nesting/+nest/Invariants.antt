use Rattle.std.proofs.Common.{drop}
use Rattle.watchman_types.proofs.Levels.{NestsBefore}
use Rattle.watchman_types.proofs.requests.nesting.+nest.Given as goal

abbrev pub invariant-all_nest_within-loop-operand : goal.invariant-all_nest_within-loop-operand
invariant-all_nest_within-loop-operand l = NestsBefore l.levels l.operands (drop l.operand-index l.operands)
