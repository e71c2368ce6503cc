-- A token is put behind its comma and its gap.
use Rattle.std.proofs.Common.{◌≡◌, [], ◌∷◌, ◌++◌, ◌&&◌, cond, refl, ap, ◌∙◌}
use Rattle.json.specs.Layout.{after, depth_at, is_value}
use Rattle.json.specs.Reads.{token_of}
use Rattle.bser_json.specs.Printed.{gap_in, last_of}
use Rattle.bser_json.proofs.LaidOut.{before, puts_still, state_of, token_put}
use Rattle.bser_json.proofs.printing.Printing.token.Goals.{then-opens, else-opens}
use Rattle.bser_json.proofs.printing.Printing.token.Goals as goal

pub returns : goal.returns
returns g c =
    let t = token_of c.args.token in
    let p = c.args.self.now in
    let last = last_of p.last in
    let depth : c.if-opens.depth ≡ depth_at p.depth t = rw (← c.begins-opens.ensures) (elim c.if-opens.branch [
      | then-opens b ↦ rw b.if-opens.true b.depth-is
      | else-opens b ↦ rw b.if-opens.false (b.depth-is ∙ b.saturating_sub-depth.ensures)
    ]) in
    let spaced : c.put_gap.new.text.items ≡ p.text.items ++ before p.layout (state_of p) t =
    c.in_ok-put_gap.ensures
    ∙ (λ i. p.text.items ++ (cond (is_value last && c.begins-opens.ensures i) (44 ∷ []) [] ++ gap_in p.layout last (c.begins-opens.ensures i) (depth i))) in
    puts_still g.W.Write.contents c.write_much.result (t ∷ []) p _ c.write_much.new.self
    (token_put g.W.Write.contents p _ t c.put_gap.new.text.items refl refl spaced c.in_ok-put_token.ensures (c.after-last.ensures ∙ ap (after t) depth)) c.write_much.ensures
