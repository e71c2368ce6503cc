-- An integer is read where it is buffered, and else by more looks.
use Rattle.std.proofs.Common.{rules, refl}
use Rattle.std.specs.Int.{w64}
use mir.Val.{SFits}
use Rattle.std.proofs.lemmas.Int.{to_z-of_z}
use Rattle.bser_format.specs.ReadsScalars.{reads_integer}
use Rattle.bser_format.specs.DueReaders.{integer_at}
use Rattle.bser_deserializer.specs.Askings.{asking_integer}
use Rattle.bser_deserializer.specs.State.{State}
use Rattle.bser_deserializer.specs.View.{seen_of}
use Rattle.bser_deserializer.proofs.Scalars.{no_value_refused, asks_for_integer, wants_integer, integer_read}
use Rattle.bser_deserializer.proofs.deserializer.Deserializer.read_i64.Goals as goal

pub returns-then-not-is_value_due-clause-refused : goal.returns-then-not-is_value_due-clause-refused
returns-then-not-is_value_due-clause-refused g c =
    let s : State = c.args.self.now.state in
    λ fits. no_value_refused integer_at (reads_integer fits) (asking_integer fits) _ s _ (asks_for_integer fits) (wants_integer s.due)
    (c.is_value_due.ensures.no c.if-not-is_value_due.true) c.refuse_no_value.ensures.err c.refuse_no_value.ensures.names

pub returns-in-Some-clause-found : goal.returns-in-Some-clause-found
returns-in-Some-clause-found g c =
    let s : State = (seen_of g.R.Lent.Lending.kept c.self.inside).state in
    let fits : SFits w64 c.in-Some.number = search rules in
    rw (← c.self.view_is)
    (integer_read s _ c.in-Some.number _ (to_z-of_z w64 c.in-Some.number fits) ((rw (← c.self.view_is) at c.is_value_due.ensures.yes) c.if-not-is_value_due.false) c.in-Some.ensures.some refl)

pub returns-in-None-clause-refused : goal.returns-in-None-clause-refused
returns-in-None-clause-refused g c = rw (← c.self.view_is) (rw c.in-None.ensures.none at c.read_i64_slowly.ensures.refused)
