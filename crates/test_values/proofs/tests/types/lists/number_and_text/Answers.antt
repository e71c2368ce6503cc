-- Such a tuple needs no memory, so nothing of a message is refused.
use Rattle.std.proofs.Common.{IsOk, Result, Ok, Err, IfErr, refl}
use Rattle.test_values.proofs.tests.types.lists.number_and_text.Goals as goal

answered : {A E : Type 0} (X : E → Type 0) (r : Result A E) → IfErr r X → ((e : E) → X e → ⊥) → IsOk r
answered X (Ok v) u none = refl
answered X (Err e) u none = absurd (none e u)

pub returns : goal.returns
returns c text rest d reads same = answered _ c.from_slice.result c.from_slice.ensures.refused (λ e u. (let needed = (u.excuse text rest d reads same).needed in cc))
