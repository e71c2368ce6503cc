use Rattle.std.proofs.Common.{arith, length, refl, sym, ap, subst, ◌∙◌}
use Rattle.std.proofs.lemmas.Result.{err_from_is_err_and}
use Rattle.bser_source.specs.Refusal.{EndsShort, Refused}
use Rattle.bser_source.specs.Window.{AreOctets}
use Rattle.bser_source.specs.Reader.{io_at}
use Rattle.bser_source.proofs.Windows.{grown_then, regrown}
use Rattle.bser_source.proofs.Refusals.{refused_grown, short_grown}
use Rattle.bser_source.proofs.io_read.IoRead.pull_to.Goals as goal

pub loop-self-preserved : goal.loop-self-preserved
loop-self-preserved g c =
    let i = c.loop-self.invariant in
    record {
      grown = grown_then c.args.n c.args.n _ _ _ (omega arith) i.grown c.in_ok-pull.ensures.grown;
      front = c.in_ok-pull.ensures.front;
      working = c.in_ok-pull.ensures.grown.failed ∙ i.working;
    }

pub returns-in_err-pull-clause-err : goal.returns-in_err-pull-clause-err
returns-in_err-pull-clause-err g c =
    let i = c.loop-self.invariant in
    let p = err_from_is_err_and c.from_residual.result c.from_residual.ensures.1 in
    let after = io_at g.S.Source.remaining g.S.Source.failures g.S.Source.through c.pull.new.self in
    rw (p.1, p.2) (subst (λ s. Refused c.in_err-pull.field-0.0 s after c.args.n) c.pack.ensures.window (refused_grown c.args.n c.args.n _ _ _ _ refl (sym i.grown.failed ∙ i.working) i.grown c.in_err-pull.ensures.err))

pub returns-in_err-pull-clause-end : goal.returns-in_err-pull-clause-end
returns-in_err-pull-clause-end g c =
    let i = c.loop-self.invariant in
    let p = err_from_is_err_and c.from_residual.result c.from_residual.ensures.1 in
    let after = io_at g.S.Source.remaining g.S.Source.failures g.S.Source.through c.pull.new.self in
    rw (p.1, p.2) (λ early. subst (λ s. EndsShort c.args.n s after) c.pack.ensures.window (short_grown c.args.n c.args.n _ _ _ i.grown (c.in_err-pull.ensures.end early)))

pub returns-clause-ok : goal.returns-clause-ok
returns-clause-ok g c =
    let i = c.loop-self.invariant in
    record {
      grown = regrown c.args.n _ _ _ c.pack.ensures.window i.grown;
      octets = subst AreOctets c.buffered.ensures c.count_octets.ensures.octets;
      enough = omega (arith, c.count_octets.ensures.len, ap length c.buffered.ensures);
      working = c.if-self.false;
    }
