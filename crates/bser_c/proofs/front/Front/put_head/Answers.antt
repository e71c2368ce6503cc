-- A count below 128 takes a byte.
use Rattle.std.proofs.Common.{rules, ◌<◌, ◌∷◌, List, ℕ, sym, subst}
use Rattle.bser_ser.proofs.Spelling.{short_count}
use Rattle.bser_c.specs.Fronts.{Puts}
use Rattle.bser_c.proofs.front.Front.put_head.Goals as goal

pub returns-then-count-lt128 : goal.returns-then-count-lt128
returns-then-count-lt128 c =
    let short : c.args.count < 128 = search rules in
    subst (λ (xs : List ℕ). Puts c.args.self.now c.put.new.self (c.args.tag ∷ xs) c.put.result) (sym (short_count c.args.count short)) c.put.ensures
