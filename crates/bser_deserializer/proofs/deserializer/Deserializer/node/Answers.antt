use Rattle.std.proofs.Common.{refl, map, sym, ap, ◌∙◌}
use Rattle.bser_format.specs.DueReaders.{tag}
use Rattle.bser_deserializer.specs.State.{State}
use Rattle.bser_deserializer.specs.Dues.{IsTagged}
use Rattle.bser_deserializer.specs.View.{seen_of}
use Rattle.bser_deserializer.proofs.Dues.{untagged}
use Rattle.bser_deserializer.proofs.Nodes.{no_node_refused}
use Rattle.bser_deserializer.proofs.Tags.{peeked, tagged_due}
use Rattle.bser_deserializer.proofs.deserializer.Deserializer.node.Goals as goal

pub node_without_tag-requires : goal.node_without_tag-requires
node_without_tag-requires g c =
    let ks = map g.R.Lent.Lending.kept c.self.inside.keys.items in
    rw (← c.self.view_is)
    (untagged ks c.self.inside.place c.self.inside.due c.in_default.not-Node c.in_default.not-Key c.in_default.not-Field)

pub returns-in-Some-clause-found : goal.returns-in-Some-clause-found
returns-in-Some-clause-found g c =
    let s : State = (seen_of g.R.Lent.Lending.kept c.self.inside).state in
    let ks = map g.R.Lent.Lending.kept c.self.inside.keys.items in
    let tagged : IsTagged s.due = tagged_due ks c.self.inside.place c.self.inside.due c.in-Node.is in
    rw (← c.self.view_is)
    (record {
      seen = tag _;
      stands = (tagged, peeked _ _ _ c.in_ok-fill-in-Node.ensures.ok c.buffered.ensures);
      kind = sym (c.at.ensures ks c.self.inside.place) ∙ c.in-Some.is;
      state = refl;
    })

pub returns-in-None-clause-refused : goal.returns-in-None-clause-refused
returns-in-None-clause-refused g c =
    let s : State = (seen_of g.R.Lent.Lending.kept c.self.inside).state in
    let ks = map g.R.Lent.Lending.kept c.self.inside.keys.items in
    let tagged : IsTagged s.due = tagged_due ks c.self.inside.place c.self.inside.due c.in-Node.is in
    rw (← c.self.view_is)
    (no_node_refused _ _ s _ _ tagged (peeked _ _ _ c.in_ok-fill-in-Node.ensures.ok c.buffered.ensures)
    (sym (c.at.ensures ks c.self.inside.place) ∙ c.in-None.is) c.refuse_tag.ensures.reason (ap (λ (z : State). z.source) c.refuse_tag.ensures.state))
