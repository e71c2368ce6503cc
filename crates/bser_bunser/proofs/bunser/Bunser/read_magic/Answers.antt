use Rattle.std.proofs.Common.{rules, ◌≡◌, ◌∷◌, [], get_or, ap}
use Rattle.bser_bunser.proofs.Heads.{not_magic, magic_names}
use Rattle.bser_bunser.proofs.bunser.Bunser.read_magic.Goals.{then-magic-ne0-via-then-magic-ne0, then-magic-ne0-via-else-magic-ne0+then-magic-ne2}
use Rattle.bser_bunser.proofs.bunser.Bunser.read_magic.Goals as goal

pub returns-then-magic-ne0-clause-refused : goal.returns-then-magic-ne0-clause-refused
returns-then-magic-ne0-clause-refused g c =
    let magic = c.in_ok-magic.magic in
    let other : magic ≡ 0x00 ∷ 0x02 ∷ [] → ⊥ = λ e. elim c.then-magic-ne0.branch [
      | then-magic-ne0-via-then-magic-ne0 w ↦ w.if-magic-ne0.true (ap (λ l. get_or l 0 0) e)
      | then-magic-ne0-via-else-magic-ne0+then-magic-ne2 w ↦ w.if-magic-ne2.true (ap (λ l. get_or l 1 0) e)
    ] in
    let names = magic_names magic _ _ c.in_ok-magic.ensures.length (not_magic magic other) c.in_ok-magic.ensures.ok in
    record { err = search rules; names = rw c.refuse.ensures.reason names; memory = search rules }
