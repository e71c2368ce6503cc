use Rattle.std.proofs.Common.{List, ℕ, sym, ◌∙◌, arith}
use Rattle.bser_deserializer.specs.Dues.{name_at}
use Rattle.bser_types.specs.Accesses.{open_pairs}
use Rattle.bser_types.proofs.Pairs.{awaits_key, field_key}
use Rattle.bser_types.proofs.map.MapAccess.await_key.Goals as goal

pub returns-then-self-2-clause-some : goal.returns-then-self-2-clause-some
returns-then-self-2-clause-some g c same =
    let ks : List (List ℕ) = c.args.self.now.from.now.state.keys in
    let due = field_key ks c.args.self.now.head.row c.args.self.now.head.at c.if-self-2.true in
    rw c.await_name.ensures (awaits_key (open_pairs c.args.self.now) (name_at c.args.self.now.head.at ks)
    (sym c.is_failed.ensures.value ∙ c.if-is_failed.false) c.if-self.false (omega (arith, c.remaining.ensures, c.if-remaining-eq0.false)) due)
