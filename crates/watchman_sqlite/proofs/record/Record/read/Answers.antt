use Rattle.std.proofs.Common.{ap, ◌∙◌}
use Rattle.std.proofs.lemmas.Result.{err_from_is_err_and}
use Rattle.watchman_sqlite.specs.declared.error.IndexError.TheVariants.{Database}
use Rattle.watchman_sqlite.proofs.Readable.{kind_readable, mode_readable}
use Rattle.watchman_sqlite.proofs.record.Record.read.Goals as goal

pub returns-in_err-letter-clause-refused : goal.returns-in_err-letter-clause-refused
returns-in_err-letter-clause-refused c =
    let p = err_from_is_err_and c.from_residual-in_err-letter.result c.from_residual-in_err-letter.ensures.1 in
    rw p.1 (λ other r fits is.
    c.in_err-letter.ensures.kind (λ same. other (p.2 ∙ ap Database same)) is.kind.within (kind_readable r.row.state.kind _ is.kind.value))

pub returns-in_err-get-3-clause-refused : goal.returns-in_err-get-3-clause-refused
returns-in_err-get-3-clause-refused c =
    let p = err_from_is_err_and c.from_residual-in_err-get-3.result c.from_residual-in_err-get-3.ensures.1 in
    rw p.1 (λ other r fits is.
    c.in_err-get-3.ensures.kind (λ same. other (p.2 ∙ ap Database same)) is.mode.within (mode_readable r.row.state.mode _ fits is.mode.value))
