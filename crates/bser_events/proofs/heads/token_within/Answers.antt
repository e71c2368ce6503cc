use Rattle.std.specs.Prelude.{Result, Ok}
use Rattle.std.proofs.lemmas.Result.{err_from_is_err_and}
use Rattle.bser_bunser.specs.declared.prefix.Token.{Token}
use Rattle.bser_bunser.specs.declared.refusal.Refused.{Refused}
use Rattle.bser_events.proofs.Begins.{within_took, within_level, within_names, within_fails}
use Rattle.bser_events.proofs.heads.token_within.Goals as goal

pub returns-clause-ok : goal.returns-clause-ok
returns-clause-ok g c =
    let token : Result Token Refused = Ok c.in_ok-token.token in
    within_took c.args.levels token _ _ _ c.in_ok-check_level.ensures.ok c.in_ok-token.ensures.ok

pub returns-clause-level : goal.returns-clause-level
returns-clause-level g c =
    let token : Result Token Refused = Ok c.in_ok-token.token in
    within_level c.args.levels token _ _ _ c.in_ok-check_level.ensures.ok c.in_ok-token.ensures.ok

pub returns-in_err-token-clause-err : goal.returns-in_err-token-clause-err
returns-in_err-token-clause-err g c =
    let p = err_from_is_err_and c.from_residual-in_err-token.result c.from_residual-in_err-token.ensures.1 in
    let r = c.in_err-token.ensures.refused in
    rw p.1 (record {
      err = within_fails c.args.levels _ _ _ _ c.in_ok-check_level.ensures.ok r.err;
      names = within_names c.args.levels _ _ _ c.in_ok-check_level.ensures.ok r.names;
      memory = r.memory;
    })
