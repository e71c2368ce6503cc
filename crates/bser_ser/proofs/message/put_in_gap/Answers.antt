use Rattle.std.proofs.Common.{rules, ◌≡◌, ◌+◌, ◌-◌, ℕ, List, [], ◌∷◌, ◌++◌, length, take, drop, arith, sym, ap, ◌∙◌}
use Rattle.std.proofs.lemmas.Grind.{common_steps}
use Rattle.bser_ser.specs.Message.{front_of}
use Rattle.bser_ser.proofs.Gap.{turned, covered}
use Rattle.bser_ser.proofs.message.put_in_gap.Goals as goal

pub returns : goal.returns
returns c =
    let header : List ℕ = 0 ∷ 2 ∷ 0 ∷ 0 ∷ 0 ∷ 0 ∷ (c.spell-len.new.buf ++ []) in
    let old : List ℕ = c.args.message.now.items in
    let n : ℕ = c.spell-len.result in
    let front : List ℕ = take (6 + n - 8) header in
    let start = c.copy_from_slice.ensures.after in
    let after : c.copy_from_slice-2.new.self ≡ take (6 + n) header = rw start at c.copy_from_slice-2.ensures.after in
    let extended : c.extend_from_slice.new.self.items ≡ old ++ front = rw start at c.in_ok-extend_from_slice.ensures.items in
    let short : length front ≡ 6 + n - 8 = grind (arith, common_steps) in
    let moved : c.rotate_right.new.self.items ≡ front ++ old = c.rotate_right.ensures.items ∙ turned old front _ _ _ extended (sym short) (search rules) in
    let whole : take (6 + n) header ≡ front_of c.args.body = search rules in
    let long : length (take (6 + n) header) ≡ 8 + length front = grind (arith, common_steps) in
    let filled = c.copy_from_slice-2.new.self in
    let over = covered old front filled c.rotate_right.new.self.items _ c.rotate_right.new.self.len moved (ap length after ∙ long) c.requires (search rules) in
    record { ok = over ∙ ap (λ h. h ++ drop 8 old) (after ∙ whole) }
