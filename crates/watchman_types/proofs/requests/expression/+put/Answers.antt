use Rattle.std.proofs.Common.{arith, [], ◌∷◌, map, codes, refl, ap}
use Rattle.std.proofs.lemmas.List.{drop_all, length-map}
use Rattle.std.proofs.lemmas.Result.{err_from_is_err_and, MatchResult-weaker}
use Rattle.bser_source.proofs.Lists.{item_here}
use Rattle.bser_ser.proofs.Texts.{items_more, items_done, items_put, items_writable, items_stop}
use Rattle.watchman_types.specs.Expressions.{expression_tree}
use Rattle.watchman_types.proofs.Operands.{word_put, word_stops}
use Rattle.watchman_types.proofs.requests.expression.+put.Goals as goal

pub put_negation-returns-in_err-put_text-clause-err : goal.put_negation-returns-in_err-put_text-clause-err
put_negation-returns-in_err-put_text-clause-err g t c =
    let p = err_from_is_err_and c.from_residual-in_err-put_text.result c.from_residual-in_err-put_text.ensures.1 in
    rw (p.1, p.2) (word_stops g.W.Sink g.met.W.Sink.took_both (codes "not") (expression_tree c.args.operand.now ∷ []) 2 refl c.args.out.now c.put_seq.new.self c.put_text.new.self c.in_ok-put_seq.ensures.put.0
    c.in_err-put_text.field-0.0 c.in_err-put_text.ensures.put.0 c.in_err-put_text.ensures.put.1)

pub put_negation-returns-clause-ok : goal.put_negation-returns-clause-ok
put_negation-returns-clause-ok g t c =
    let put = word_put g.W.Sink g.met.W.Sink.took_both (codes "not") (expression_tree c.args.operand.now ∷ []) 2 refl c.args.out.now c.put_seq.new.self c.put_text.new.self c.in_ok-put_seq.ensures.put.0 c.in_ok-put_text.ensures.put.0 c.in_ok-put_text.ensures.writable in
    MatchResult-weaker c.put_expression.result c.put_expression.ensures.ok (λ _ h. items_done _ g.met.W.Sink.took_both put h) (λ _ h. h)

pub put_negation-returns-clause-err : goal.put_negation-returns-clause-err
put_negation-returns-clause-err g t c =
    let put = word_put g.W.Sink g.met.W.Sink.took_both (codes "not") (expression_tree c.args.operand.now ∷ []) 2 refl c.args.out.now c.put_seq.new.self c.put_text.new.self c.in_ok-put_seq.ensures.put.0 c.in_ok-put_text.ensures.put.0 c.in_ok-put_text.ensures.writable in
    MatchResult-weaker c.put_expression.result c.put_expression.ensures.err (λ _ h. h) (λ e h. items_stop _ e g.met.W.Sink.took_both put refl h)

pub put_operands-returns-in_err-put_text-clause-err : goal.put_operands-returns-in_err-put_text-clause-err
put_operands-returns-in_err-put_text-clause-err g t c =
    let p = err_from_is_err_and c.from_residual-in_err-put_text.result c.from_residual-in_err-put_text.ensures.1 in
    let es = c.args.operands.now in
    rw (p.1, p.2) (word_stops g.W.Sink g.met.W.Sink.took_both c.args.word.now (map expression_tree es) _ (omega (arith, length-map es expression_tree)) c.args.out.now c.put_seq.new.self c.put_text.new.self c.in_ok-put_seq.ensures.put.0
    c.in_err-put_text.field-0.0 c.in_err-put_text.ensures.put.0 c.in_err-put_text.ensures.put.1)

pub put_operands-loop-operand-init : goal.put_operands-loop-operand-init
put_operands-loop-operand-init g t c =
    let es = c.args.operands.now in
    word_put g.W.Sink g.met.W.Sink.took_both c.args.word.now (map expression_tree es) _ (omega (arith, length-map es expression_tree)) c.args.out.now c.put_seq.new.self c.put_text.new.self c.in_ok-put_seq.ensures.put.0 c.in_ok-put_text.ensures.put.0 c.in_ok-put_text.ensures.writable

pub put_operands-loop-operand-preserved : goal.put_operands-loop-operand-preserved
put_operands-loop-operand-preserved g t c =
    items_more g.met.W.Sink.took_both c.loop-operand.invariant (ap (map expression_tree) (item_here _ c.loop-operand.operand-index c.operand-item.result c.loop-operand-test.true c.operand-item.is)) c.in_ok-put_expression.ensures.ok c.in_ok-put_expression.ensures.writable

pub put_operands-returns-in_err-put_expression-clause-err : goal.put_operands-returns-in_err-put_expression-clause-err
put_operands-returns-in_err-put_expression-clause-err g t c =
    let p = err_from_is_err_and c.from_residual-in_err-put_expression.result c.from_residual-in_err-put_expression.ensures.1 in
    rw (p.1, p.2) (items_stop _ _ g.met.W.Sink.took_both c.loop-operand.invariant (ap (map expression_tree) (item_here _ c.loop-operand.operand-index c.operand-item.result c.loop-operand-test.true c.operand-item.is)) c.in_err-put_expression.ensures.err)

pub put_operands-returns-clause-ok : goal.put_operands-returns-clause-ok
put_operands-returns-clause-ok g t c = items_put c.loop-operand.invariant (ap (map expression_tree) (drop_all c.loop-operand.operand-index _ c.loop-operand-test.false))

pub put_operands-returns-clause-writable : goal.put_operands-returns-clause-writable
put_operands-returns-clause-writable g t c =
    items_writable c.loop-operand.invariant (ap (map expression_tree) (drop_all c.loop-operand.operand-index _ c.loop-operand-test.false)) (omega (arith, length-map c.args.operands.now expression_tree, c.in_ok-put_seq.ensures.counted))
