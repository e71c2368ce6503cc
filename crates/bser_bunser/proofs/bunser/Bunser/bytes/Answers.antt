use Rattle.std.proofs.Common.{◌≡◌, ◌≤◌, ◌<◌, ◌∙◌, [], true, length, take, arith, ap, subst}
use Rattle.std.proofs.lemmas.Grind.{common_steps}
use Rattle.bser_source.specs.Window.{AreOctets, Took, consumed}
use Rattle.bser_bunser.proofs.Counted.{took_buffered}
use Rattle.bser_bunser.proofs.bunser.Bunser.bytes.Goals.{in-Some, in-None+else-is_err}
use Rattle.bser_bunser.proofs.bunser.Bunser.bytes.Goals as goal

pub returns-clause-ok : goal.returns-clause-ok
returns-clause-ok g c =
    let s = c.args.self.now.window in
    let seen : g.R.DeRead.window c.self.inside.read ≡ s = ap (λ v. v.window) c.self.view_is in
    let here : g.R.DeRead.window c.self-2.inside.read ≡ s = ap (λ v. v.window) c.self-2.view_is in
    let some : 0 < c.args.len = omega (arith, c.if-len-eq0.false) in
    let fits : c.args.len ≤ length s.buffered = omega (arith, c.if-len-count_octets.false, c.count_octets.ensures.len, ap length c.buffered.ensures, ap (λ w. length w.buffered) seen) in
    let octets : AreOctets s.buffered = subst AreOctets (c.buffered.ensures ∙ ap (λ w. w.buffered) seen) c.count_octets.ensures.octets in
    let refuses : s.failed ≡ true → s.buffered ≡ [] = subst (λ w. w.failed ≡ true → w.buffered ≡ []) seen (g.met.R.DeRead.refuses c.self.inside.read) in
    let took : Took s (consumed c.args.len s) (take c.args.len s.buffered) = took_buffered c.args.len s octets some fits refuses in
    elim c.match-lend.branch [
      | in-Some w ↦ rw (w.result-is, w.self-inside-is, w.consume.ensures, w.in-Some.ensures.0, here) took
      | in-None+else-is_err w ↦ (
          let copied : w.as_slice.result.now ≡ take c.args.len s.buffered = grind (arith, common_steps, here) in
          rw (w.result-is, w.self-inside-is, w.consume-in-None.ensures, here, copied) took)
    ]
