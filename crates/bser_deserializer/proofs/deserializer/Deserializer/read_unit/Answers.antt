use Rattle.std.proofs.Common.{sym, refl, ◌∙◌}
use Rattle.std.proofs.lemmas.Result.{err_from_is_err_and}
use Rattle.bser_format.specs.ReadsScalars.{reads_unit}
use Rattle.bser_format.specs.DueReaders.{unit_at}
use Rattle.bser_deserializer.specs.Askings.{asking_unit}
use Rattle.bser_deserializer.specs.State.{State}
use Rattle.bser_deserializer.specs.View.{seen_of}
use Rattle.bser_deserializer.proofs.Scalars.{no_tag_refused, asks_for_unit, wants_unit, no_null_refused, unit_read}
use Rattle.bser_deserializer.proofs.deserializer.Deserializer.read_unit.Goals as goal

pub returns-in_err-tag-clause-refused : goal.returns-in_err-tag-clause-refused
returns-in_err-tag-clause-refused g c =
    let s : State = c.args.self.now.state in
    let p = err_from_is_err_and c.from_residual.result c.from_residual.ensures.1 in
    rw p.1 (no_tag_refused unit_at reads_unit asking_unit _ s _ asks_for_unit (wants_unit s.due) c.in_err-tag.ensures.err c.in_err-tag.ensures.names)

pub returns-then-not-is_null_tag-clause-refused : goal.returns-then-not-is_null_tag-clause-refused
returns-then-not-is_null_tag-clause-refused g c =
    let s : State = c.args.self.now.state in
    let m : State = c.value_tag.new.self.state in
    no_null_refused _ c.in_ok-tag.tag s m _ c.in_ok-tag.ensures.found (sym c.is_null_tag.ensures ∙ c.if-not-is_null_tag.true)
    c.refuse_tag.ensures.reason c.refuse_tag.ensures.state

pub returns-clause-found : goal.returns-clause-found
returns-clause-found g c =
    let s : State = c.args.self.now.state in
    let m : State = (seen_of g.R.Lent.Lending.kept c.self.inside).state in
    unit_read s m _ c.in_ok-tag.tag (rw (← c.self.view_is) at c.in_ok-tag.ensures.found) (sym (rw (← c.self.view_is) at c.is_null_tag.ensures) ∙ c.if-not-is_null_tag.false) c.consume.ensures.window refl
