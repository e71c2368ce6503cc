use Rattle.std.proofs.Common.{refl}
use Rattle.std.proofs.lemmas.Result.{err_from_is_err_and}
use Rattle.bser_format.specs.ReadsScalars.{reads_bool}
use Rattle.bser_format.specs.DueReaders.{bool_at}
use Rattle.bser_deserializer.specs.Askings.{asking_bool}
use Rattle.bser_deserializer.specs.State.{State}
use Rattle.bser_deserializer.specs.View.{seen_of}
use Rattle.bser_deserializer.proofs.Scalars.{no_tag_refused, asks_for_bool, wants_bool, other_tag_refused, other_bool, bool_read}
use Rattle.bser_deserializer.proofs.deserializer.Deserializer.read_bool.Goals as goal

pub returns-in_err-tag-clause-refused : goal.returns-in_err-tag-clause-refused
returns-in_err-tag-clause-refused g c =
    let s : State = c.args.self.now.state in
    let p = err_from_is_err_and c.from_residual.result c.from_residual.ensures.1 in
    rw p.1 (no_tag_refused bool_at reads_bool asking_bool _ s _ asks_for_bool (wants_bool s.due) c.in_err-tag.ensures.err c.in_err-tag.ensures.names)

pub returns-then-tag-ne-BSER_FALSE-clause-refused : goal.returns-then-tag-ne-BSER_FALSE-clause-refused
returns-then-tag-ne-BSER_FALSE-clause-refused g c =
    let s : State = c.args.self.now.state in
    let m : State = c.value_tag.new.self.state in
    other_tag_refused bool_at reads_bool asking_bool _ c.in_ok-tag.tag s m _ asks_for_bool c.in_ok-tag.ensures.found
    (other_bool c.in_ok-tag.tag c.if-tag-ne-BSER_TRUE.true c.if-tag-ne-BSER_FALSE.true) c.refuse_tag.ensures.reason c.refuse_tag.ensures.state

pub returns-clause-found : goal.returns-clause-found
returns-clause-found g c =
    let s : State = c.args.self.now.state in
    let m : State = (seen_of g.R.Lent.Lending.kept c.self.inside).state in
    bool_read s m _ c.in_ok-tag.tag c.else-tag-ne-BSER_TRUE.either (rw (← c.self.view_is) at c.in_ok-tag.ensures.found) c.consume.ensures.window refl
