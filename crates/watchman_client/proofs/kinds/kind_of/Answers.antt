-- A mark and an error that were read together.
use Rattle.watchman_client.proofs.Marks.{nothing_of, signs_errorless, signs_kind, signs_read}
use Rattle.watchman_client.proofs.kinds.kind_of.Goals as goal

pub returns-in-Ok-clause-kind : goal.returns-in-Ok-clause-kind
returns-in-Ok-clause-kind c =
    let r = signs_read c.in-Ok.signs.unilateral _ _ c.args.message.now c.in-Ok.signs (λ x h. h) c.in-Ok.ensures.found in
    signs_kind c.in-Ok.signs.unilateral r.0 c.args.message.now r.1

pub returns-in-Ok-clause-errorless : goal.returns-in-Ok-clause-errorless
returns-in-Ok-clause-errorless c = λ e. (
    let r = signs_read c.in-Ok.signs.unilateral _ _ c.args.message.now c.in-Ok.signs (λ x h. h) c.in-Ok.ensures.found in
    signs_errorless c.in-Ok.signs.unilateral r.0 c.args.message.now (nothing_of _ c.in-Ok.signs.error r.0 (rw e at c.is_none.ensures) r.2) r.1)
