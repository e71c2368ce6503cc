use Rattle.std.proofs.Common.{map, sym, ap, ◌∙◌}
use Rattle.bser_deserializer.specs.State.{State}
use Rattle.bser_deserializer.specs.Dues.{due_of}
use Rattle.bser_deserializer.proofs.Nodes.{key_here, key_seen, row_seen, nothing_refused}
use Rattle.bser_deserializer.proofs.deserializer.Deserializer.node_without_tag.Goals.{in-Row, in_default}
use Rattle.bser_deserializer.proofs.deserializer.Deserializer.node_without_tag.Goals as goal

pub returns-clause-found : goal.returns-clause-found
returns-clause-found g c =
    let s : State = c.args.self.now.state in
    let ks = map g.R.Lent.Lending.kept c.self.inside.keys.items in
    let here = ap (λ v. v.state.due) c.self.view_is in
    let works = sym c.is_failed.ensures.value ∙ c.if-is_failed.false in
    let wanted = rw (← c.self.view_is) at c.requires in
    let some = (rw (← c.self.view_is) at c.is_due.ensures.some) c.if-not-is_due.false in
    elim c.match-self.branch [
      | in-Row w ↦ rw w.result-is (row_seen s ks (sym here ∙ ap (due_of ks c.self.inside.place) w.in-Row.is) works)
      | in_default w ↦ (
          let key = key_here ks c.self.inside.place c.self.inside.due wanted some w.in_default.not-Row in
          rw w.result-is (key_seen s key.0 (sym here ∙ key.1) works))
    ]

pub returns-then-not-is_due-clause-refused : goal.returns-then-not-is_due-clause-refused
returns-then-not-is_due-clause-refused g c =
    let s : State = c.args.self.now.state in
    nothing_refused _ s _ (c.is_due.ensures.none c.if-not-is_due.true) c.refuse_nothing_due.ensures.reason
    (ap (λ (z : State). z.source) c.refuse_nothing_due.ensures.state)
