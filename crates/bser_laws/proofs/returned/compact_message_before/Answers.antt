use Rattle.std.proofs.Common.{◌<◌, ◌^◌, length, arith}
use Rattle.serde_bser.specs.ValueView.{tree_of}
use Rattle.bser_laws.proofs.Back.{written_compact}
use Rattle.bser_laws.proofs.returned.compact_message_before.Goals as goal

pub returns-clause-written : goal.returns-clause-written
returns-clause-written c =
    let m = c.in_ok-bytes.bytes in
    let short : length m.items < 2 ^ 63 = omega (arith, m.ok.0, m.ok.1, m.small) in
    written_compact (tree_of c.args.value.now) m.items c.check_tree.ensures.value c.in_ok-bytes.ensures.ok short
