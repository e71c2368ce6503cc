use Rattle.std.proofs.Common.{sym, ap, subst, refl, map, ◌∙◌}
use Rattle.bser_format.specs.DueReaders.{nothing_at, asked, wrong_type, nothing_here}
use Rattle.bser_deserializer.specs.State.{State}
use Rattle.bser_deserializer.specs.Dues.{due_of, IsTagged}
use Rattle.bser_deserializer.specs.Reading.{NamesDue, bare}
use Rattle.bser_deserializer.specs.View.{seen_of}
use Rattle.bser_deserializer.specs.declared.note.Note.{Note}
use Rattle.bser_deserializer.proofs.Ranges.{refused_other}
use Rattle.bser_deserializer.proofs.Tags.{peeked, stray_names, complained_names, complained_fails, nothing_kind, untagged_asked}
use Rattle.bser_deserializer.proofs.deserializer.Deserializer.refuse_no_value.Goals as goal

pub returns-in-Ok-clause-names : goal.returns-in-Ok-clause-names
returns-in-Ok-clause-names g c =
    let s : State = (seen_of g.R.Lent.Lending.kept c.self.inside).state in
    let ks = map g.R.Lent.Lending.kept c.self.inside.keys.items in
    rw (← c.self.view_is)
    (subst (λ e. NamesDue bare nothing_at e s) (sym c.refuse_tag.ensures.reason)
    (stray_names nothing_at _ s _ (subst (λ d. IsTagged (due_of ks c.self.inside.place d)) (sym c.in-Key.is) tt)
    (peeked _ _ _ c.in-Ok.ensures.ok c.buffered.ensures) (λ y. refl)))

pub returns-in_default : goal.returns-in_default
returns-in_default g c =
    let s : State = c.args.self.now.state in
    let ks = map g.R.Lent.Lending.kept c.self.inside.keys.items in
    let some = (rw (← c.self.view_is) at c.is_due.ensures.some) c.if-is_due.true in
    let here = ap (λ v. v.state.due) c.self.view_is in
    (record {
      err = complained_fails wrong_type _ s.source _ tt c.complain.ensures.reason (ap (λ (z : State). z.source) c.complain.ensures.state);
      names = complained_names bare (asked nothing_at s.opened s.due) wrong_type _ s.source c.complain.ensures.reason
          (λ x. ap (λ d. asked nothing_at s.opened d x) (sym here) ∙ untagged_asked s.opened ks c.self.inside.place c.self.inside.due x (rw (← c.self.view_is) at c.requires) c.in_default.not-Key some);
      begun = ap (λ (n : Note). n.begun) c.complain.ensures.note;
      other = refused_other s.source.failed wrong_type _ refl c.complain.ensures.reason;
      memory = c.complain.ensures.memory;
    })

pub returns-in_default-2 : goal.returns-in_default-2
returns-in_default-2 g c =
    let s : State = c.args.self.now.state in
    let none = c.is_due.ensures.none c.if-is_due.false in
    (record {
      err = complained_fails (nothing_here s.opened) _ s.source _ (nothing_kind s.opened) c.refuse_nothing_due.ensures.reason
          (ap (λ (z : State). z.source) c.refuse_nothing_due.ensures.state);
      names = complained_names bare (asked nothing_at s.opened s.due) (nothing_here s.opened) _ s.source c.refuse_nothing_due.ensures.reason
          (λ x. ap (λ d. asked nothing_at s.opened d x) none);
      begun = ap (λ (n : Note). n.begun) c.refuse_nothing_due.ensures.note;
      other = c.refuse_nothing_due.ensures.other;
      memory = c.refuse_nothing_due.ensures.memory;
    })
