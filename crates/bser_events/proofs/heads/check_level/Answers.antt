use Rattle.std.proofs.Common.{rules, arith, get_or, refl, sym, ap, ◌∙◌}
use Rattle.std.proofs.lemmas.Result.{err_from_is_err_and}
use Rattle.bser_format.specs.declared.errors.Kind.TheVariants as kinds
use Rattle.bser_events.proofs.Outcomes.{first_is}
use Rattle.bser_events.proofs.Begins.{level_names, level_left, no_level, none_names, leaf_ahead}
use Rattle.bser_events.proofs.heads.check_level.Goals as goal

pub returns-in-0-clause-err : goal.returns-in-0-clause-err
returns-in-0-clause-err g c =
    let filled = c.in_ok-fill.ensures.ok in
    record {
      err = search rules;
      names = rw c.refuse_with.ensures.reason (no_level c.args.levels _ _ c.if-levels-ne0.false (level_names kinds.Array 0x00 _ _ filled (first_is 0x00 _ filled.enough (ap (λ l. get_or l 0 0) (sym c.buffered.ensures) ∙ c.in-0.is)) (λ y. refl)));
      memory = search rules;
    }

pub returns-in-1-clause-err : goal.returns-in-1-clause-err
returns-in-1-clause-err g c =
    let filled = c.in_ok-fill.ensures.ok in
    record {
      err = search rules;
      names = rw c.refuse_with-in-1.ensures.reason (no_level c.args.levels _ _ c.if-levels-ne0.false (level_names kinds.Object 0x01 _ _ filled (first_is 0x01 _ filled.enough (ap (λ l. get_or l 0 0) (sym c.buffered.ensures) ∙ c.in-1.is)) (λ y. refl)));
      memory = search rules;
    }

pub returns-in-11-clause-err : goal.returns-in-11-clause-err
returns-in-11-clause-err g c =
    let filled = c.in_ok-fill.ensures.ok in
    record {
      err = search rules;
      names = rw c.refuse_with-in-11.ensures.reason (no_level c.args.levels _ _ c.if-levels-ne0.false (level_names kinds.Template 0x0b _ _ filled (first_is 0x0b _ filled.enough (ap (λ l. get_or l 0 0) (sym c.buffered.ensures) ∙ c.in-11.is)) (λ y. refl)));
      memory = search rules;
    }

pub returns-then-levels-ne0-clause-ok : goal.returns-then-levels-ne0-clause-ok
returns-then-levels-ne0-clause-ok g c = level_left c.args.levels _ _ c.if-levels-ne0.true refl

pub returns-in_err-fill-clause-err : goal.returns-in_err-fill-clause-err
returns-in_err-fill-clause-err g c =
    let p = err_from_is_err_and c.from_residual.result c.from_residual.ensures.1 in
    let no = c.in_err-fill.ensures.refused in
    rw p.1 (record { err = search rules; names = no_level c.args.levels _ _ c.if-levels-ne0.false (none_names _ _ no.names); memory = no.memory })

pub returns-in_default-clause-ok : goal.returns-in_default-clause-ok
returns-in_default-clause-ok g c =
    let filled = c.in_ok-fill.ensures.ok in
    leaf_ahead c.args.levels _ _ c.if-levels-ne0.false (record {
      tag = get_or c.buffered.result.now 0 0;
      filled = filled;
      next = first_is _ _ filled.enough (ap (λ l. get_or l 0 0) (sym c.buffered.ensures));
      no_array = λ e. omega (arith, e);
      no_object = λ e. omega (arith, e);
      no_template = λ e. omega (arith, e);
    })
