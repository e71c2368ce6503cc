-- Each piece is moved behind those before it.
use Rattle.std.proofs.Common.{◌≡◌, ◌∷◌, [], ◌++◌, List, length, refl, sym, ap, ◌∙◌, append_assoc, append-nil, arith}
use Rattle.std.specs.Vec.Iter.{into_iter_items}
use Rattle.bser_value.specs.Gathered.{joined}
use Rattle.bser_value.proofs.gathered.list_of.Goals as goal

nothing_left : {X : Type 0} (l : List X) → length l ≡ 0 → l ≡ []
nothing_left [] h = refl
nothing_left (x ∷ xs) h = absurd (omega arith)

pub loop-piece-preserved : goal.loop-piece-preserved
loop-piece-preserved c =
    let at = c.loop-piece in
    let steps = c.in-Some.ensures.steps in
    let rest = into_iter_items c.next.new.self in
    record {
      moved = ap (λ l. l ++ joined rest) c.in_ok-append.ensures.items ∙ append_assoc at.list.items c.in-Some.piece.items (joined rest) ∙ ap (λ l. at.list.items ++ joined l) (sym steps.0) ∙ at.invariant.moved;
      counted = (let was = at.invariant.counted in let gone = steps.1 in let short = ap length steps.0 in omega arith);
    }

pub returns : goal.returns
returns c =
    let at = c.loop-piece in
    let none = c.in-None.ensures.steps in
    let empty : into_iter_items at.piece-iterator ≡ [] = nothing_left _ (sym at.invariant.counted ∙ none.0) in
    sym (append-nil at.list.items) ∙ ap (λ l. at.list.items ++ joined l) (sym empty) ∙ at.invariant.moved
