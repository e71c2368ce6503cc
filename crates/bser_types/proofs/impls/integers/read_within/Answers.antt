-- An integer that was read is outside the range.
use Rattle.std.proofs.Common.{◌≡◌, rules, arith, true}
use Rattle.std.specs.Prelude.{FitsSigned}
use Rattle.std.specs.Int.{w64}
use Rattle.std.proofs.lemmas.Int.{ints}
use Rattle.std.proofs.lemmas.Result.{err_from_is_err_and}
use Rattle.bser_types.proofs.Integers.{out_of_range}
use Rattle.bser_types.proofs.impls.integers.read_within.Goals as goal
use Rattle.bser_types.proofs.impls.integers.read_within.Goals.{then-number-least-via-then-number-least, then-number-least-via-else-number-least+then-most-number}

pub returns-in_err-number-clause-refused : goal.returns-in_err-number-clause-refused
returns-in_err-number-clause-refused g c =
    rw (err_from_is_err_and c.from_residual.result c.from_residual.ensures.1).1 (λ fits lies. c.in_err-number.ensures.refused fits)

pub returns-then-number-least-clause-refused : goal.returns-then-number-least-clause-refused
returns-then-number-least-clause-refused g c fits lies =
    let whole : FitsSigned w64 c.in_ok-number.number = search rules in
    let out : fits c.in_ok-number.number ≡ true → ⊥ = λ h.
    elim c.then-number-least.branch [
      | then-number-least-via-then-number-least w ↦ omega (arith, ints, (lies c.in_ok-number.number whole h).0, w.if-number-least)
      | then-number-least-via-else-number-least+then-most-number w ↦ omega (arith, ints, (lies c.in_ok-number.number whole h).1, w.if-most-number)
    ] in
    out_of_range fits c.args.from.now.state c.read_i64.new.self.state _ _ _ c.in_ok-number.ensures.found out c.refuse_number.ensures.reason c.refuse_number.ensures.state
