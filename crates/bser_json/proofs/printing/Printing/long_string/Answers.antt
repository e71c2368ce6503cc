-- A string is put piece by piece.
use Rattle.std.proofs.Common.{◌≡◌, ◌++◌, [], refl, sym, ◌∙◌, arith, rules, take-append-drop}
use Rattle.bser_json.proofs.Parts.{up_to_none, up_to_next, up_to_end, none_left}
use Rattle.bser_json.proofs.printing.Printing.long_string.Goals as goal

pub loop-rest-init : goal.loop-rest-init
loop-rest-init g c = record {
  text = search rules;
  put = up_to_none g.W.Write.contents (λ s. s) c.args.text.now c.args.text.now c.args.self.now c.begin_string.new.self refl refl c.in_ok-begin_string.ensures;
}

pub loop-rest-smaller : goal.loop-rest-smaller
loop-rest-smaller g c = omega (arith, c.split_at.ensures.back_len, c.piece_end.ensures.some)

pub loop-rest-preserved : goal.loop-rest-preserved
loop-rest-preserved g c =
    let rest = c.loop-rest.rest.now in
    let piece = c.split_at.result.0.now in
    let behind = c.split_at.result.1.now in
    let cut : rest ≡ piece ++ behind = sym (take-append-drop c.piece_end.result rest) ∙ (λ i. sym c.split_at.ensures.front i ++ sym c.split_at.ensures.back i) in
    record {
      text = search rules;
      put = up_to_next g.W.Write.contents (λ s. s) c.args.text.now rest piece behind piece c.args.self.now c.loop-rest.self c.put_part.new.self (λ a b. refl) cut refl c.in_ok-put_part.ensures c.loop-rest.invariant.put;
    }

pub returns : goal.returns
returns g c =
    let rest = c.loop-rest.rest.now in
    let none : rest ≡ [] = none_left rest c.is_empty.result c.is_empty.ensures c.loop-rest-test.false in
    up_to_end g.W.Write.contents (λ s. s) c.args.text.now rest c.args.self.now c.loop-rest.self c.end_string.new.self c.end_string.result none c.end_string.ensures c.loop-rest.invariant.put
