-- The keys are taken one by one.
use Rattle.std.proofs.Common.{◌≡◌, arith, suc, ◌+◌, ◌-◌, [], ◌∷◌, ◌++◌, map, ap, ◌∙◌, true, not}
use Rattle.std.specs.Prelude.{is_ok}
use Rattle.std.proofs.lemmas.List.{map-append}
use Rattle.std.proofs.lemmas.Result.{err_from_is_err_and}
use Rattle.bser_deserializer.proofs.Templates.{took_count, progress_start, progress_next, progress_end, next_refused}
use Rattle.bser_deserializer.proofs.template.take_keys.Goals as goal

pub loop-key-init : goal.loop-key-init
loop-key-init g c =
    let all : c.in_ok-count.count - 0 ≡ c.in_ok-count.count = omega arith in
    record {
      progress = rw (c.new-keys.ensures.items, all) (progress_start _ _ _ (took_count _ _ _ c.in_ok-count.ensures.ok));
      kept = c.in_ok-count.ensures.kept;
    }

pub returns-in_err-key-clause-names : goal.returns-in_err-key-clause-names
returns-in_err-key-clause-names g c =
    let p = err_from_is_err_and c.from_residual-in_err-key.result c.from_residual-in_err-key.ensures.1 in
    let left : c.in_ok-count.count - c.loop-key._key ≡ suc (c.in_ok-count.count - (c.loop-key._key + 1)) = omega arith in
    rw p.1 (next_refused _ _ _ _ _ _ c.loop-key.invariant.progress left c.in_err-key.ensures.names)

pub loop-key-preserved : goal.loop-key-preserved
loop-key-preserved g c =
    let left : c.in_ok-count.count - c.loop-key._key ≡ suc (c.in_ok-count.count - (c.loop-key._key + 1)) = omega arith in
    let next = progress_next _ _ _ _ _ _ _ c.loop-key.invariant.progress left c.in_ok-key.ensures.ok in
    let pushed : is_ok c.push.result ≡ true = c.is_err.ensures.negation ∙ ap not c.if-is_err.false in
    let items : c.push.new.self.items ≡ c.loop-key.keys.items ++ (c.in_ok-key.key ∷ []) = rw pushed at c.push.ensures.items in
    let keys = ap (map g.R.Lent.Lending.kept) items ∙ map-append g.R.Lent.Lending.kept c.loop-key.keys.items (c.in_ok-key.key ∷ []) in
    record {
      progress = rw keys next;
      kept = c.in_ok-key.ensures.kept ∙ c.loop-key.invariant.kept;
    }

pub returns-clause-ok : goal.returns-clause-ok
returns-clause-ok g c =
    let none : c.in_ok-count.count - c.loop-key._key ≡ 0 = omega arith in
    progress_end _ _ _ _ none c.loop-key.invariant.progress
