-- An object is read by the first type, and any other value by the second.
use Rattle.std.proofs.Common.{◌||◌, true, false, Option, refl, subst}
use Rattle.std.proofs.lemmas.Bool.{or_left, or_right}
use Rattle.std.proofs.lemmas.Result.{err_from_is_err_and}
use Rattle.bser_deserializer.specs.Reading.{Asking, Needs}
use Rattle.bser_deserializer.specs.State.{State}
use Rattle.bser_deserializer.specs.Nodes.{SeesNode}
use Rattle.bser_deserializer.specs.declared.node.Node.TheVariants as kinds
use Rattle.bser_types.proofs.Taken.{wider_type}
use Rattle.bser_types.specs.Choices.{reads_object_or}
use Rattle.bser_types.proofs.Choices.{neither_seen, object_seen, object_answers, object_refused, other_seen, other_answers, other_refused}
use Rattle.bser_structs.proofs.Objects.{head_asked, object_asked, other_asked}
use Rattle.bser_structs.specs.Objects.{HoldsObjectOr, asking_object_or}
use Rattle.bser_structs.specs.declared.object_or.ObjectOr.TheVariants.{Object, Other}
use Rattle.bser_structs.proofs.object_or.ObjectOrDeserialize.deserialize.Goals as goal
use Rattle.bser_structs.proofs.object_or.ObjectOrDeserialize.deserialize.Given as given

abbrev asks : (g : given.Over) → Option (Asking (reads_object_or g.O.Shape.reads g.T.Shape.reads))
asks g = asking_object_or g.O.Shape.asks g.T.Shape.asks

abbrev needs : given.Over → Needs
needs g = record { lent = g.O.Shape.needs.lent || g.T.Shape.needs.lent; memory = true; keys = false; copied = true }

pub returns-in_err-node-clause-refused : goal.returns-in_err-node-clause-refused
returns-in_err-node-clause-refused g c =
    let p = err_from_is_err_and c.from_residual.result c.from_residual.ensures.1 in
    let s : State = c.args.from.now.state in
    let z : State = c.node.new.self.state in
    rw p.1 (neither_seen g.O.Shape.reads g.T.Shape.reads (asks g) (needs g) s z _ (head_asked g.O.Shape.reads g.T.Shape.reads g.O.Shape.asks g.T.Shape.asks s) c.in_err-node.ensures.refused)

pub returns-in_err-object-in-Object-clause-refused : goal.returns-in_err-object-in-Object-clause-refused
returns-in_err-object-in-Object-clause-refused g c =
    let p = err_from_is_err_and c.from_residual-in_err-object-in-Object.result c.from_residual-in_err-object-in-Object.ensures.1 in
    let s : State = c.args.from.now.state in
    let mid : State = c.node.new.self.state in
    let z : State = c.deserialize.new.from.state in
    let own : Needs = g.O.Shape.needs in
    let sees : SeesNode s mid kinds.Object = subst (SeesNode s mid) c.in-Object.is c.in_ok-node.ensures.found in
    rw p.1 (object_refused g.O.Shape.reads g.T.Shape.reads g.O.Shape.asks (asks g) (needs g) s mid z _ sees
    (object_asked g.O.Shape.reads g.T.Shape.reads g.O.Shape.asks g.T.Shape.asks s sees.seen (object_seen s mid sees))
    (wider_type g.O.Shape.reads g.O.Shape.asks own (needs g) _ mid z (λ l. or_left own.lent g.T.Shape.needs.lent l) (λ m. refl) (λ t. refl) c.in_err-object-in-Object.ensures.refused))

pub returns-in_ok-object-in-Object-clause-found : goal.returns-in_ok-object-in-Object-clause-found
returns-in_ok-object-in-Object-clause-found g c =
    let s : State = c.args.from.now.state in
    let mid : State = c.node.new.self.state in
    let z : State = c.deserialize.new.from.state in
    let sees : SeesNode s mid kinds.Object = subst (SeesNode s mid) c.in-Object.is c.in_ok-node.ensures.found in
    object_answers g.O.Shape.reads g.T.Shape.reads g.O.Shape.holds (HoldsObjectOr g.O.Shape.holds g.T.Shape.holds) s mid z c.in_ok-object-in-Object.object (Object c.in_ok-object-in-Object.object) sees (λ k held. held) c.in_ok-object-in-Object.ensures.found

pub returns-in_err-other-in_default : goal.returns-in_err-other-in_default
returns-in_err-other-in_default g c =
    let p = err_from_is_err_and c.from_residual-in_err-other-in_default.result c.from_residual-in_err-other-in_default.ensures.1 in
    let s : State = c.args.from.now.state in
    let mid : State = c.node.new.self.state in
    let z : State = c.deserialize-in_default.new.from.state in
    let own : Needs = g.T.Shape.needs in
    let sees = c.in_ok-node.ensures.found in
    rw p.1 (record {
      found = tt;
      refused = other_refused g.O.Shape.reads g.T.Shape.reads g.T.Shape.asks (asks g) (needs g) s mid z _ _ sees c.in_default.not-Object
          (other_asked g.O.Shape.reads g.T.Shape.reads g.O.Shape.asks g.T.Shape.asks s sees.seen (other_seen s mid _ sees c.in_default.not-Object))
          (wider_type g.T.Shape.reads g.T.Shape.asks own (needs g) _ mid z (λ l. or_right g.O.Shape.needs.lent own.lent l) (λ m. refl) (λ t. refl) c.in_err-other-in_default.ensures.refused);
      memory = λ none. absurd cc;
    })

pub returns-in_ok-other-in_default : goal.returns-in_ok-other-in_default
returns-in_ok-other-in_default g c =
    let s : State = c.args.from.now.state in
    let mid : State = c.node.new.self.state in
    let z : State = c.deserialize-in_default.new.from.state in
    let sees = c.in_ok-node.ensures.found in
    record {
      found = other_answers g.O.Shape.reads g.T.Shape.reads g.T.Shape.holds (HoldsObjectOr g.O.Shape.holds g.T.Shape.holds) s mid z _ c.in_ok-other-in_default.other (Other c.in_ok-other-in_default.other) sees c.in_default.not-Object (λ k held. held) c.in_ok-other-in_default.ensures.found;
      refused = tt;
      memory = λ none. tt;
    }
