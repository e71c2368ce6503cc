use Rattle.std.proofs.Common.{rules, arith, ◌≡◌, ◌≤◌, ◌<◌, length, sym, ap, subst, ◌∙◌}
use Rattle.bser_format.specs.Named as named
use Rattle.bser_format.specs.Named.{refuses, eof}
use Rattle.bser_frames.specs.Headers.{IsHeaderLength}
use Rattle.bser_frames.proofs.Additions.{reads_then}
use Rattle.bser_frames.proofs.Dues.{cut_header, header_due}
use Rattle.bser_frames.proofs.pulling.pull_header.Goals as goal

pub returns-then-branch-eq0-clause-err : goal.returns-then-branch-eq0-clause-err
returns-then-branch-eq0-clause-err g c =
    let old = c.loop-length.buffer.bytes in
    let e = c.in_ok-pull.ensures in
    let eof_there : named.head c.as_slice.result.now ≡ refuses eof = search rules in
    let cut : named.head old ≡ refuses eof = ap named.head (sym c.as_slice.ensures) ∙ eof_there in
    let long = subst (λ l. IsHeaderLength l c.header_length-want.result) c.as_slice-in-loop-length.ensures c.header_length-want.ensures in
    let have : c.len-have.result ≡ length old = search rules in
    let same : length c.pull.new.self.bytes ≡ length old = omega (arith, e.count, c.if-branch-eq0.true) in
    let some : 0 < c.len-have.result = omega (arith, c.if-have-eq0.false) in
    cut_header _ _ old c.pull.new.self.bytes c.len-have.result c.header_length-want.result cut long e.came have same some (e.end (omega (arith, c.if-branch-eq0.true)))

pub loop-length-preserved : goal.loop-length-preserved
loop-length-preserved g c =
    let old = c.loop-length.buffer.bytes in
    let e = c.in_ok-pull.ensures in
    let i = c.loop-length.invariant in
    let eof_there : named.head c.as_slice.result.now ≡ refuses eof = search rules in
    let cut : named.head old ≡ refuses eof = ap named.head (sym c.as_slice.ensures) ∙ eof_there in
    let long = subst (λ l. IsHeaderLength l c.header_length-want.result) c.as_slice-in-loop-length.ensures c.header_length-want.ensures in
    let have : c.len-have.result ≡ length old = search rules in
    let few : length c.pull.new.self.bytes ≤ c.header_length-want.result = omega (arith, e.count, e.fits, have, long.cut cut) in
    record {
      due = header_due _ _ _ old c.pull.new.self.bytes c.header_length-want.result long.least e.came few;
      added = reads_then _ _ _ _ _ _ i.added e.came;
      failures = e.kept ∙ i.failures;
      ahead = omega (arith, i.ahead, e.ahead, e.count);
    }
