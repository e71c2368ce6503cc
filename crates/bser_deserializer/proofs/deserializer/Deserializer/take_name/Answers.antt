-- A row's key is lent, or copied.
use Rattle.std.proofs.Common.{◌≡◌, Bool, true, false, List, ℕ, refl, inl, inr, ◌⊎◌}
use Rattle.bser_format.specs.Expected.{name_due}
use Rattle.bser_deserializer.specs.State.{State}
use Rattle.bser_deserializer.specs.View.{NoNameDue}
use Rattle.bser_deserializer.specs.View.{seen_of}
use Rattle.bser_deserializer.proofs.Strings.{no_name_refused}
use Rattle.bser_deserializer.proofs.Texts.{name_taken}
use Rattle.bser_deserializer.proofs.deserializer.Deserializer.take_name.Goals as goal

none_or_failed : (s : State) → NoNameDue s → ((k : List ℕ) → s.due ≡ name_due k → ⊥) ⊎ (s.source.failed ≡ true)
none_or_failed s none = go s.source.failed refl
  where
    go : (b : Bool) → s.source.failed ≡ b → ((k : List ℕ) → s.due ≡ name_due k → ⊥) ⊎ (s.source.failed ≡ true)
    go true failed = inr failed
    go false works = inl (none works)

pub returns-in-None-clause-refused : goal.returns-in-None-clause-refused
returns-in-None-clause-refused g c =
    let s : State = c.args.self.now.state in
    let n : State = c.refuse_no_value.new.self.state in
    no_name_refused _ s n c.requires (none_or_failed s c.in-None.ensures.none) c.refuse_no_value.ensures.err c.refuse_no_value.ensures.names

pub returns-in-Ok-clause-found : goal.returns-in-Ok-clause-found
returns-in-Ok-clause-found g c =
    let s : State = (seen_of g.R.Lent.Lending.kept c.self.inside).state in
    let some = rw (← c.self.view_is) at c.in-Some.ensures.some in
    rw (← c.self.view_is)
    (name_taken _ _ s _ some.due c.in-Ok.ensures.ok some.working refl)
