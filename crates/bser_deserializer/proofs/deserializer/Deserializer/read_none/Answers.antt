-- A null is taken by its tag, and another value left.
use Rattle.std.proofs.Common.{refl, sym, ap, ◌∙◌}
use Rattle.bser_deserializer.specs.State.{State}
use Rattle.bser_deserializer.specs.View.{seen_of}
use Rattle.bser_deserializer.proofs.Tags.{peeked}
use Rattle.bser_deserializer.proofs.Nulls.{other_seen, stray_refused, null_tag_taken}
use Rattle.bser_deserializer.proofs.deserializer.Deserializer.read_none.Goals as goal

pub returns-then-is_something-clause-found : goal.returns-then-is_something-clause-found
returns-then-is_something-clause-found g c =
    let s : State = (seen_of g.R.Lent.Lending.kept c.self.inside).state in
    rw (← c.self.view_is)
    (other_seen _ s _ ((rw (← c.self.view_is) at c.is_value_due.ensures.yes) c.if-not-is_value_due.false) (peeked _ _ _ c.in_ok-fill.ensures.ok c.buffered.ensures)
    (sym c.is_something.ensures ∙ c.if-is_something.true))

pub returns-then-not-is_null_tag-clause-refused : goal.returns-then-not-is_null_tag-clause-refused
returns-then-not-is_null_tag-clause-refused g c =
    let s : State = (seen_of g.R.Lent.Lending.kept c.self.inside).state in
    rw (← c.self.view_is)
    (stray_refused _ _ s _ _ ((rw (← c.self.view_is) at c.is_value_due.ensures.yes) c.if-not-is_value_due.false) (peeked _ _ _ c.in_ok-fill.ensures.ok c.buffered.ensures)
    (sym c.is_something.ensures ∙ c.if-is_something.false) (sym c.is_null_tag.ensures ∙ c.if-not-is_null_tag.true)
    c.refuse_tag.ensures.reason (ap (λ (z : State). z.source) c.refuse_tag.ensures.state))

pub returns-clause-found : goal.returns-clause-found
returns-clause-found g c =
    let s : State = (seen_of g.R.Lent.Lending.kept c.self.inside).state in
    rw (← c.self.view_is)
    (null_tag_taken _ s _ _ ((rw (← c.self.view_is) at c.is_value_due.ensures.yes) c.if-not-is_value_due.false) (peeked _ _ _ c.in_ok-fill.ensures.ok c.buffered.ensures)
    (sym c.is_null_tag.ensures ∙ c.if-not-is_null_tag.false) c.consume.ensures.window refl)
