use Rattle.std.proofs.Common.{◌≡◌, ◌∷◌, Some, cond, sym, ◌∙◌, ap, subst, ◌⊎◌}
use Rattle.std.specs.BTreeMap.{is_at}
use Rattle.std.specs.List.{IsDistinct}
use Rattle.std.specs.Map.{keys_of}
use Rattle.std.specs.Ordering.{nat_cmp, eq_by_cmp}
use Rattle.std.specs.Cmp.Lexicographic.{slice_cmp}
use Rattle.std.proofs.lemmas.Map.Keys.{IsDistinct-from_sorted}
use Rattle.std.proofs.lemmas.Map.Iter.{rest_more, rest_all}
use Rattle.watchman_index.specs.Tables.{of_name, row_put, PutsPartly}
use Rattle.watchman_index.proofs.Puts.{at, IsPutUpTo, put_begin, put_step, put_partly, distinct_tail, on_err}
use Rattle.watchman_index.proofs.index.put_listed.Goals as goal

pub loop-name-init : goal.loop-name-init
loop-name-init c =
    let g = c.into_iter-name-iterator.ensures.into_iter_gives in
    rw g.0 (IsDistinct-from_sorted _ _ g.5, λ name. put_begin _ (of_name c.args.listed name) _)

pub loop-name-preserved : goal.loop-name-preserved
loop-name-preserved c =
    let more = rest_more (λ p. p) _ _ c.next.result _ c.in-Some.is c.next.ensures.steps in
    let held = c.loop-name.invariant in
    let name = c.in-Some.name in
    let d : IsDistinct (eq_by_cmp (slice_cmp nat_cmp)) (name ∷ keys_of c.next.new.self)
    = subst (λ es. IsDistinct (eq_by_cmp (slice_cmp nat_cmp)) (keys_of es)) more held.0 in (
      distinct_tail _ _ _ d,
      λ q. put_step c.args.number name q c.in-Some.state c.next.new.self (of_name c.args.listed q)
          (of_name c.args.files.now q) (of_name c.loop-name.files q) (of_name c.insert.new.self q) d
          (subst (λ es. IsPutUpTo c.args.number (of_name c.args.listed q) (at es q)
          (of_name c.args.files.now q) (of_name c.loop-name.files q)) more (held.1 q))
          (c.in_ok-insert.ensures.updates.0 q ∙ ap (λ r. cond (is_at (slice_cmp nat_cmp name) q)
          (Some r) (of_name c.loop-name.files q)) c.told.ensures),
    )

pub returns-in_err-insert-clause-err : goal.returns-in_err-insert-clause-err
returns-in_err-insert-clause-err c =
    let held = c.loop-name.invariant in
    let stays = c.in_err-insert.ensures.err in
    let partly : PutsPartly c.args.number c.args.listed c.args.files.now c.insert.new.self
    = λ q. subst (λ es. (at es q ≡ of_name c.args.files.now q)
    ⊎ (at es q ≡ row_put c.args.number (of_name c.args.listed q) (of_name c.args.files.now q))) (sym stays)
    (put_partly c.args.number (of_name c.args.listed q) (at c.loop-name.name-iterator q)
    (of_name c.args.files.now q) (of_name c.loop-name.files q) (held.1 q)) in
    on_err c.from_residual.result partly

pub returns-clause-ok : goal.returns-clause-ok
returns-clause-ok c =
    let none = rest_all (λ p. p) _ _ c.next.result c.in-None.is c.next.ensures.steps in
    λ q. subst (λ es. IsPutUpTo c.args.number (of_name c.args.listed q) (at es q)
    (of_name c.args.files.now q) (of_name c.loop-name.files q)) none (c.loop-name.invariant.1 q)
