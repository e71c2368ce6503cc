use Rattle.std.proofs.Common.{rules, ◌≤◌, length, arith, ap, sym, subst, ◌∙◌}
use Rattle.std.proofs.lemmas.Result.{err_from_is_err_and}
use Rattle.bser_source.specs.Window.{AreOctets}
use Rattle.bser_bunser.proofs.Counted.{passing, passing_on, passing_short, passing_names}
use Rattle.bser_bunser.proofs.bunser.Bunser.pass_slowly.Goals as goal

pub loop-left-init : goal.loop-left-init
loop-left-init g c =
    let a = g.R.DeRead.window c.self.inside.read in
    let n = c.min-ahead.result in
    let within : n ≤ c.args.len = omega (arith, c.min-ahead.ensures) in
    let fits : n ≤ length a.buffered = omega (arith, c.min-ahead.ensures, c.count_octets.ensures.len, ap length c.buffered.ensures) in
    let octets : AreOctets a.buffered = subst AreOctets c.buffered.ensures c.count_octets.ensures.octets in
    record {
      passing = rw (← c.self.view_is, c.consume.ensures) (passing c.args.len n a octets within fits (sym c.is_failed.ensures ∙ c.if-is_failed.false));
      kept = search rules;
    }

pub loop-left-preserved : goal.loop-left-preserved
loop-left-preserved g c =
    let le : c.min-step.result ≤ c.loop-left.left = omega (arith, c.min-step.ensures) in
    let filled = rw (← c.self-in-loop-left.view_is) at c.in_ok-fill.ensures.ok in
    record {
      passing = rw c.consume-in-loop-left.ensures (passing_on c.args.len c.loop-left.left c.min-step.result _ _ _ c.loop-left.invariant.passing filled le);
      kept = search rules;
    }

pub returns-in_err-fill-clause-refused : goal.returns-in_err-fill-clause-refused
returns-in_err-fill-clause-refused g c =
    let p = err_from_is_err_and c.from_residual.result c.from_residual.ensures.1 in
    let le : c.min-step.result ≤ c.loop-left.left = omega (arith, c.min-step.ensures) in
    let no = c.in_err-fill.ensures.refused in
    rw p.1 (record {
      err = passing_short c.args.len c.loop-left.left c.min-step.result _ _ _ _ c.loop-left.invariant.passing le no.err;
      names = passing_names c.args.len c.loop-left.left c.min-step.result _ _ _ _ c.loop-left.invariant.passing le no.err;
      memory = no.memory;
    })
