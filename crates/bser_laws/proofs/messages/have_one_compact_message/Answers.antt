use Rattle.std.proofs.Common.{◌≡◌, ◌<◌, ◌^◌, ◌↔◌, IsTrue, length, rules, arith}
use Rattle.serde_bser.specs.ValueView.{tree_of}
use Rattle.bser_laws.proofs.Back.{one_compact}
use Rattle.bser_laws.proofs.messages.have_one_compact_message.Goals as goal

pub returns-clause-values : goal.returns-clause-values
returns-clause-values c =
    let m = c.in_ok-one.one in
    let k = c.in_ok-other.other in
    let short : length m.items < 2 ^ 63 = omega (arith, m.ok.0, m.ok.1, m.small) in
    let low : length k.items < 2 ^ 63 = omega (arith, k.ok.0, k.ok.1, k.small) in
    let tells : IsTrue c.eq.result ↔ (m.items ≡ k.items) = search rules in
    (one_compact (tree_of c.args.first.now) (tree_of c.args.second.now) m.items k.items c.eq.result c.check_tree.ensures.value c.check_tree-2.ensures.value c.in_ok-one.ensures.ok c.in_ok-other.ensures.ok short low tells).1
