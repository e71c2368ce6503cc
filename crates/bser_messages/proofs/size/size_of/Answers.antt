-- The size of a message.
use Rattle.std.proofs.Common.{arith}
use Rattle.std.proofs.lemmas.Result.{IfOk-weaker, IfErr-weaker}
use Rattle.bser_messages.proofs.SizeReads.{begins_size, slice_refused}
use Rattle.bser_messages.proofs.size.size_of.Goals as goal

pub returns-clause-found : goal.returns-clause-found
returns-clause-found c = IfOk-weaker c.from_slice.result _ _ (λ s h. begins_size _ c.args.bytes.now s (omega arith) h) c.from_slice.ensures.found

pub returns-clause-refused : goal.returns-clause-refused
returns-clause-refused c = IfErr-weaker c.from_slice.result _ _ (λ e h. slice_refused _ c.args.bytes.now e h) c.from_slice.ensures.refused
