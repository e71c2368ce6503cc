use Rattle.std.proofs.Common.{List, ℕ, ap}
use Rattle.bser_deserializer.specs.Access.{OpenPairs, pairs_in}
use Rattle.bser_types.specs.Accesses.{open_pairs}
use Rattle.bser_types.proofs.Pairs.{field_passed, entry_passed}
use Rattle.bser_types.proofs.map.MapAccess.pass_key.Goals as goal
use Rattle.bser_types.proofs.map.MapAccess.pass_key.Goals.{then-self, else-self}
use Rattle.std.proofs.Common.{true}

pub returns-clause-passed : goal.returns-clause-passed
returns-clause-passed g c =
    let ks : List (List ℕ) = c.args.self.now.from.now.state.keys in
    let old : OpenPairs = open_pairs c.args.self.now in
    elim c.if-self.branch [
      | then-self w ↦ rw w.self-is (ap (λ z. pairs_in old old.state z true) (field_passed ks c.args.self.now.head.row c.args.self.now.head.at w.if-self.true))
      | else-self w ↦ rw w.self-is (ap (λ z. pairs_in old old.state z true) (entry_passed ks c.args.self.now.head.row c.args.self.now.head.at w.if-self.false))
    ]
