-- The piece that was the last is behind the others, and the new one is empty.
use Rattle.std.proofs.Common.{◌≡◌, [], ◌++◌, List, Vec, ap, ◌∙◌, append-nil}
use Rattle.std.specs.declared.alloc.Global.{Global}
use Rattle.bser_value.specs.Gathered.{joined}
use Rattle.bser_value.specs.declared.value.Value.{Value}
use Rattle.bser_value.proofs.Pieces.{joined_last}
use Rattle.bser_value.proofs.gathered.Gathered.add_piece.Goals as goal

pub returns : goal.returns
returns c =
    let old = c.args.self.now in
    let kept = c.reserve_exact.new.self.items in
    let whole = joined c.push.new.self.items in
    let empty : c.replace.new.dest.items ≡ [] = ap (λ (p : Vec Value Global). p.items) c.replace.ensures.after ∙ c.in_ok-piece.ensures.items in
    ap (λ l. whole ++ l) empty ∙ append-nil whole ∙ ap joined c.in_ok-push.ensures.items ∙ joined_last kept c.replace.result
    ∙ ap (λ (p : Vec Value Global). joined kept ++ p.items) c.replace.ensures.value
    ∙ ap (λ (ps : List (Vec Value Global)). joined ps ++ old.last.items) c.in_ok-reserve_exact.ensures.items
