use Rattle.std.proofs.Common.{refl, subst}
use Rattle.bser_deserializer.specs.State.{State}
use Rattle.bser_deserializer.specs.Nodes.{SeesNode}
use Rattle.bser_deserializer.specs.View.{seen_of}
use Rattle.bser_deserializer.proofs.Nodes.{null_read}
use Rattle.bser_deserializer.proofs.deserializer.Deserializer.read_no_value.Goals as goal

pub returns-in-Null-clause-found : goal.returns-in-Null-clause-found
returns-in-Null-clause-found g c =
    let s : State = c.args.self.now.state in
    let m : State = (seen_of g.R.Lent.Lending.kept c.self.inside).state in
    null_read s m _ (subst (SeesNode s m) c.in-Null.is (rw (← c.self.view_is) at c.in_ok-node.ensures.found)) c.consume.ensures.window refl
