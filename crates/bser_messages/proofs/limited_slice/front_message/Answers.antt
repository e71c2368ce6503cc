-- The message at the front of a slice.
use Rattle.std.proofs.Common.{rules, ◌∙◌}
use Rattle.std.proofs.lemmas.Result.{err_from_is_err_and}
use Rattle.bser_messages.proofs.Slices.{slice_length, slice_front, slice_refused_within}
use Rattle.bser_messages.proofs.limited_slice.front_message.Goals as goal

pub returns-in_err-value-clause-refused : goal.returns-in_err-value-clause-refused
returns-in_err-value-clause-refused g c =
    let p = err_from_is_err_and c.from_residual.result c.from_residual.ensures.1 in
    rw (p.1, p.2) (slice_refused_within c.args.limits.levels c.args.limits.bytes g.T.Shape.reads g.T.Shape.asks g.T.Shape.needs _ c.args.bytes.now _ _ (c.unread-from.ensures.source ∙ c.new.ensures) c.in_err-value.ensures.refused)

pub returns-clause-within : goal.returns-clause-within
returns-clause-within g c =
    slice_length c.args.limits.levels c.args.limits.bytes g.T.Shape.reads g.T.Shape.holds c.args.bytes.now _ _ c.in_ok-value.value _ (c.unread-from.ensures.source ∙ c.new.ensures) (search rules) c.in_ok-value.ensures.found

pub returns-clause-found : goal.returns-clause-found
returns-clause-found g c =
    slice_front c.args.limits.levels c.args.limits.bytes g.T.Shape.reads g.T.Shape.holds c.args.bytes.now _ _ c.in_ok-value.value _ (c.unread-from.ensures.source ∙ c.new.ensures) (search rules) c.in_ok-value.ensures.found
