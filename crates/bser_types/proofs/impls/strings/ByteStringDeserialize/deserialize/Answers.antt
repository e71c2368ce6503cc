-- An array is read as a list of bytes, and any other value as a string.
use Rattle.std.proofs.Common.{subst}
use Rattle.std.proofs.lemmas.Result.{err_from_is_err_and}
use Rattle.bser_deserializer.specs.State.{State}
use Rattle.bser_deserializer.specs.Nodes.{SeesNode}
use Rattle.bser_deserializer.specs.declared.node.Node.TheVariants as kinds
use Rattle.bser_deserializer.proofs.Openings.{if_ok, if_err}
use Rattle.bser_types.proofs.ByteLists.{nothing_seen, array_answers, array_refused, string_answers, string_refused}
use Rattle.bser_types.proofs.impls.strings.ByteStringDeserialize.deserialize.Goals as goal

pub returns-in_err-node-clause-refused : goal.returns-in_err-node-clause-refused
returns-in_err-node-clause-refused g c =
    rw (err_from_is_err_and c.from_residual.result c.from_residual.ensures.1).1 (nothing_seen c.args.from.now.state c.node.new.self.state _ c.in_err-node.ensures.refused)

pub returns-in_err-deserialize-in-Array-clause-refused : goal.returns-in_err-deserialize-in-Array-clause-refused
returns-in_err-deserialize-in-Array-clause-refused g c =
    let s : State = c.args.from.now.state in
    let mid : State = c.node.new.self.state in
    let z : State = c.deserialize.new.from.state in
    let sees : SeesNode s mid kinds.Array = subst (SeesNode s mid) c.in-Array.is c.in_ok-node.ensures.found in
    rw (err_from_is_err_and c.from_residual-in_err-deserialize-in-Array.result c.from_residual-in_err-deserialize-in-Array.ensures.1).1 (array_refused s mid z _ sees c.in_err-deserialize-in-Array.ensures.refused)

pub returns-in_ok-deserialize-in-Array-clause-found : goal.returns-in_ok-deserialize-in-Array-clause-found
returns-in_ok-deserialize-in-Array-clause-found g c =
    let s : State = c.args.from.now.state in
    let mid : State = c.node.new.self.state in
    let z : State = c.deserialize.new.from.state in
    let sees : SeesNode s mid kinds.Array = subst (SeesNode s mid) c.in-Array.is c.in_ok-node.ensures.found in
    rw c.from_vec.ensures (array_answers s mid z c.in_ok-deserialize-in-Array.field-0 sees c.in_ok-deserialize-in-Array.ensures.found)

pub returns-in_default : goal.returns-in_default
returns-in_default g c =
    let s : State = c.args.from.now.state in
    let mid : State = c.node.new.self.state in
    let z : State = c.read_byte_string.new.self.state in
    let sees = c.in_ok-node.ensures.found in
    record {
      found = if_ok _ _ c.read_byte_string.result (λ v a. string_answers s mid z _ v sees a) c.read_byte_string.ensures.found;
      refused = if_err _ _ c.read_byte_string.result (λ u. string_refused s mid z _ _ sees c.in_default.not-Array u) c.read_byte_string.ensures.refused;
      memory = λ none. absurd cc;
    }
