-- The size of a message within limits.
use Rattle.std.proofs.Common.{arith}
use Rattle.std.proofs.lemmas.Result.{IfOk-weaker, IfErr-weaker}
use Rattle.bser_messages.proofs.SizeReads.{begins_size_within, slice_refused_within}
use Rattle.bser_messages.proofs.size.size_of_limited.Goals as goal

pub returns-clause-found : goal.returns-clause-found
returns-clause-found c = IfOk-weaker c.from_slice_limited.result _ _ (λ s h. begins_size_within c.args.limits c.args.bytes.now s (omega arith) h) c.from_slice_limited.ensures.found

pub returns-clause-refused : goal.returns-clause-refused
returns-clause-refused c = IfErr-weaker c.from_slice_limited.result _ _ (λ e h. slice_refused_within c.args.limits c.args.bytes.now e h) c.from_slice_limited.ensures.refused
