-- The one value of a text.
use Rattle.std.proofs.Common.{[], refl, ◌∙◌}
use Rattle.std.proofs.lemmas.Result.{err_from_is_err_and}
use Rattle.bser_from_json.specs.Made.{a_value}
use Rattle.bser_from_json.proofs.Outcomes.{lacking, refused_is, refused_same, run_end, taken}
use Rattle.bser_from_json.proofs.reading.Reading.whole.Goals as goal

pub returns-in_err-first : goal.returns-in_err-first
returns-in_err-first c =
    let p = err_from_is_err_and c.from_residual.result c.from_residual.ensures.1 in
    let e = c.in_err-first.field-0.0 in
    rw p.1 (refused_is _ p.0 e p.2 (lacking c.args.self.now.strings (a_value []) c.args.tokens.now c.next.new.self e (refl, refl) c.in_err-first.ensures.taken))

pub returns-in_err-all : goal.returns-in_err-all
returns-in_err-all c =
    let p = err_from_is_err_and c.from_residual-in_err-all.result c.from_residual-in_err-all.ensures.1 in
    let e = c.in_err-all.field-0.0 in
    rw p.1 (refused_is _ p.0 e p.2 (refused_same _ _ e (taken c.args.self.now.strings (a_value []) c.args.tokens.now c.next.new.self c.in_ok-first.first c.in_ok-first.ensures.taken) (c.in_err-all.ensures.comes [] refl)))

pub returns-in_err-end : goal.returns-in_err-end
returns-in_err-end c =
    let s = c.args.self.now.strings in
    let p = err_from_is_err_and c.from_residual-in_err-end.result c.from_residual-in_err-end.ensures.1 in
    let e = c.in_err-end.field-0.0 in
    let put = c.in_ok-all.ensures.comes in
    rw p.1 (refused_is _ p.0 e p.2
    (refused_same _ _ e (taken s (a_value []) c.args.tokens.now c.next.new.self c.in_ok-first.first c.in_ok-first.ensures.taken ∙ put.2 [] refl)
    (c.in_err-end.ensures s put.0)))

pub returns : goal.returns
returns c =
    let s = c.args.self.now.strings in
    let put = c.in_ok-all.ensures.comes in (
      put.0,
      put.1,
      taken s (a_value []) c.args.tokens.now c.next.new.self c.in_ok-first.first c.in_ok-first.ensures.taken ∙ put.2 [] refl
          ∙ run_end s c.value.new.tokens put.0 c.in_ok-end.ensures,
    )
