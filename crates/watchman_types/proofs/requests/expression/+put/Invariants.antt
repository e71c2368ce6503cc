use Rattle.std.proofs.Common.{drop, map}
use Rattle.watchman_types.specs.Expressions.{expression_tree}
use Rattle.watchman_types.proofs.Operands.{PartsPut}
use Rattle.watchman_types.proofs.requests.expression.+put.Given as goal

abbrev pub invariant-put_operands-loop-operand : goal.invariant-put_operands-loop-operand
invariant-put_operands-loop-operand g l = PartsPut g.W.Sink l.word (map expression_tree l.operands) (map expression_tree (drop l.operand-index l.operands)) l.fn.out l.out
