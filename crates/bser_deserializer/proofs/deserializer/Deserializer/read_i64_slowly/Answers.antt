use Rattle.std.proofs.Common.{rules, ap, subst, refl, ◌∙◌}
use Rattle.std.specs.Int.{w64}
use mir.Val.{SFits}
use Rattle.std.proofs.lemmas.Int.{to_z-of_z}
use Rattle.std.proofs.lemmas.Result.{err_from_is_err_and}
use Rattle.bser_format.specs.ReadsScalars.{reads_integer}
use Rattle.bser_format.specs.DueReaders.{integer_at}
use Rattle.bser_source.specs.Window.{Window}
use Rattle.bser_bunser.specs.Tagged.{LooksForInt}
use Rattle.bser_bunser.specs.declared.prefix.Look.TheVariants.{Unexpected}
use Rattle.bser_deserializer.specs.Askings.{asking_integer}
use Rattle.bser_deserializer.specs.State.{State}
use Rattle.bser_deserializer.specs.View.{seen_of}
use Rattle.bser_deserializer.proofs.Scalars.{due_refused, asks_for_integer, cut_names, integer_read, no_int_refused}
use Rattle.bser_deserializer.proofs.deserializer.Deserializer.read_i64_slowly.Goals as goal

pub returns-in_err-number-clause-refused : goal.returns-in_err-number-clause-refused
returns-in_err-number-clause-refused g c =
    let s : State = (seen_of g.R.Lent.Lending.kept c.self.inside).state in
    let p = err_from_is_err_and c.from_residual.result c.from_residual.ensures.1 in
    let fails = c.in_err-number.ensures.err in
    rw (← c.self.view_is, p.1) (λ fits. due_refused integer_at (reads_integer fits) (asking_integer fits) _ s _ (asks_for_integer fits) fails
    (cut_names _ s (rw (← c.self.view_is) at c.requires) c.in_err-number.ensures.names))

pub returns-in-Taken-clause-found : goal.returns-in-Taken-clause-found
returns-in-Taken-clause-found g c =
    let s : State = (seen_of g.R.Lent.Lending.kept c.self.inside).state in
    let b : Window = c.next_int.new.self.window in
    let fits : SFits w64 c.in-Taken.number = search rules in
    rw (← c.self.view_is)
    (integer_read s _ c.in-Taken.number _ (to_z-of_z w64 c.in-Taken.number fits) (rw (← c.self.view_is) at c.requires)
    (subst (LooksForInt s.source b) c.in-Taken.is c.in_ok-number.ensures.ok) refl)

pub returns-in-Unexpected-Tag-clause-refused : goal.returns-in-Unexpected-Tag-clause-refused
returns-in-Unexpected-Tag-clause-refused g c =
    let s : State = (seen_of g.R.Lent.Lending.kept c.self.inside).state in
    let b : Window = c.next_int.new.self.window in
    let looks = subst (LooksForInt s.source b) (c.in-Unexpected-Tag.is ∙ ap Unexpected c.in-Unexpected-Tag.field-0-is) c.in_ok-number.ensures.ok in
    rw (← c.self.view_is)
    (λ fits. no_int_refused fits _ c.in-Unexpected-Tag.tag s b _ (rw (← c.self.view_is) at c.requires) looks c.refuse_tag.ensures.reason
    (ap (λ (z : State). z.source) c.refuse_tag.ensures.state))
