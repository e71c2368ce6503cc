use Rattle.std.proofs.Common.{◌≡◌, ◌++◌, ◌∷◌, [], ◌∙◌, ap, get_or, refl, rules, subst, sym, take}
use Rattle.std.proofs.lemmas.List.{take_more}
use Rattle.watchman_sqlite.proofs.Stored.{StoresRows, stored_more, stored_none}
use Rattle.watchman_sqlite.proofs.storing.put_rows.Goals as goal

pub loop-row-init : goal.loop-row-init
loop-row-init g c = (refl, stored_none g.S.Store _ _)

pub loop-row-preserved : goal.loop-row-preserved
loop-row-preserved g c =
    let rows = c.args.rows.now in
    let i = c.loop-row.row-index in
    let put = c.in_ok-put_row.ensures in
    let more = take_more rows i c.row-item.result c.loop-row-test.true in
    let item : c.row-item.result ≡ get_or rows i c.row-item.result = search rules in (
      put.same_reference ∙ c.loop-row.invariant.0,
      subst (λ rs. StoresRows g.S.Store c.args.put.now.text rs c.args.transaction.now.conn.now c.put_row.new.transaction.conn.now) (sym (more ∙ ap (λ r. take i rows ++ r ∷ []) (sym item)))
          (stored_more g.S.Store c.args.put.now.text c.args.transaction.now.conn.now (take i rows) _ c.loop-row.transaction.conn.now c.put_row.new.transaction.conn.now c.loop-row.invariant.1 put.survives put.put put.inside put.kept),
    )
