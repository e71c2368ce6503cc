use Rattle.std.proofs.Common.{inl, refl}
use Rattle.std.proofs.lemmas.Result.{on_ok_weaker}
use Rattle.watchman_index.proofs.index.Index.apply_clock.Goals as goal

pub returns-then-is_new-clause-kept : goal.returns-then-is_new-clause-kept
returns-then-is_new-clause-kept c =
    let new = c.is_new.ensures.0 c.if-is_new.true in
    on_ok_weaker c.keep_clock.result
    (λ updates. inl (new, record { clocks = updates; files = refl; last = refl })) c.keep_clock.ensures.ok
