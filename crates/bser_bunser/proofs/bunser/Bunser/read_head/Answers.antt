-- As many bytes are announced as each header has, and then a header is taken.
use Rattle.std.proofs.Common.{◌≡◌}
use Rattle.std.specs.Prelude.{Result, Ok, Err, IfOk, OnErr}
use Rattle.bser_bunser.proofs.Announced.{head_announced, announced_refused}
use Rattle.bser_bunser.proofs.bunser.Bunser.read_head.Goals as goal

if_ok : {X E : Type 0} (P Q : X → Type 0) (r : Result X E) → ((x : X) → P x → Q x) → IfOk r P → IfOk r Q
if_ok P Q (Ok x) f h = f x h
if_ok P Q (Err e) f h = tt

on_err : {X E : Type 0} (P Q : Type 0) (r : Result X E) → (P → Q) → OnErr r P → OnErr r Q
on_err P Q (Ok x) f h = tt
on_err P Q (Err e) f h = f h

pub returns-clause-ok : goal.returns-clause-ok
returns-clause-ok g c =
    if_ok _ _ c.take_head.result (λ info t. head_announced _ _ _ info.bser_capabilities info.len c.announce.ensures.window t) c.take_head.ensures.ok

pub returns-clause-refused : goal.returns-clause-refused
returns-clause-refused g c =
    on_err _ _ c.take_head.result (λ h. announced_refused _ _ _ _ _ _ c.announce.ensures.window h) c.take_head.ensures.refused
