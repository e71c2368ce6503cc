use Rattle.std.proofs.Common.{arith, ◌≤◌, length, sym, ap, subst, ◌∙◌}
use Rattle.std.proofs.lemmas.Grind.{common_steps}
use Rattle.bser_source.specs.Window.{AreOctets, Filled}
use Rattle.bser_source.proofs.Windows.{works, filled_here, took_by}
use Rattle.bser_source.proofs.read.DeRead.next_bytes.Goals as goal
use Rattle.bser_source.proofs.read.DeRead.next_bytes.Goals.{then-len-count_octets+else-len-gt-WINDOW+in_ok-fill, else-len-count_octets+else-len-eq0, else-len-eq0-via-then-len-eq0+else-is_failed, else-len-eq0-via-else-len-eq0}

pub returns-in-Some-clause-ok : goal.returns-in-Some-clause-ok
returns-in-Some-clause-ok g c =
    let a = g.Self.DeRead.window c.args.self.now in
    let b = g.Self.DeRead.window c.if-len-count_octets.self in
    let octets : AreOctets a.buffered = subst AreOctets c.buffered.ensures c.count_octets.ensures.octets in
    let filled : Filled c.args.len a b = elim c.if-len-count_octets.branch [
      | then-len-count_octets+else-len-gt-WINDOW+in_ok-fill w ↦ subst (λ r. Filled c.args.len a (g.Self.DeRead.window r)) (sym w.self-is) w.in_ok-fill.ensures.ok
      | else-len-count_octets+else-len-eq0 w ↦
          let same = ap g.Self.DeRead.window w.self-is in
          let enough : c.args.len ≤ length a.buffered = omega (arith, w.if-len-count_octets.false, c.count_octets.ensures.len, ap length c.buffered.ensures) in
          elim w.else-len-eq0.branch [
            | else-len-eq0-via-then-len-eq0+else-is_failed w' ↦ filled_here c.args.len a b same octets enough (sym w'.is_failed.ensures ∙ w'.if-is_failed.false)
            | else-len-eq0-via-else-len-eq0 w' ↦
                filled_here c.args.len a b same octets enough (works a.failed a.buffered c.args.len (g.met.Self.DeRead.refuses c.args.self.now) (omega (arith, w'.if-len-eq0.false)) enough)
          ]
    ] in
    took_by c.args.len a b _ _ filled c.consume.ensures c.in-Some.ensures.0

pub returns-else-is_err-clause-ok : goal.returns-else-is_err-clause-ok
returns-else-is_err-clause-ok g c = grind (arith, common_steps)
