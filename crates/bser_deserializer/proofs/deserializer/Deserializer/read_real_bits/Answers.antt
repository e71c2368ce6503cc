use Rattle.std.proofs.Common.{refl}
use Rattle.std.proofs.lemmas.Result.{err_from_is_err_and}
use Rattle.bser_format.specs.ReadsScalars.{reads_real}
use Rattle.bser_format.specs.DueReaders.{real_at}
use Rattle.bser_deserializer.specs.Askings.{asking_real}
use Rattle.bser_deserializer.specs.State.{State}
use Rattle.bser_deserializer.specs.View.{seen_of}
use Rattle.bser_deserializer.proofs.Scalars.{no_tag_refused, asks_for_real, wants_real, other_tag_refused, other_real, real_refused, real_read}
use Rattle.bser_deserializer.proofs.deserializer.Deserializer.read_real_bits.Goals as goal

pub returns-in_err-tag-clause-refused : goal.returns-in_err-tag-clause-refused
returns-in_err-tag-clause-refused g c =
    let s : State = c.args.self.now.state in
    let p = err_from_is_err_and c.from_residual.result c.from_residual.ensures.1 in
    rw p.1 (no_tag_refused real_at reads_real asking_real _ s _ asks_for_real (wants_real s.due) c.in_err-tag.ensures.err c.in_err-tag.ensures.names)

pub returns-then-tag-ne-BSER_REAL-clause-refused : goal.returns-then-tag-ne-BSER_REAL-clause-refused
returns-then-tag-ne-BSER_REAL-clause-refused g c =
    let s : State = c.args.self.now.state in
    let m : State = c.value_tag.new.self.state in
    other_tag_refused real_at reads_real asking_real _ c.in_ok-tag.tag s m _ asks_for_real c.in_ok-tag.ensures.found
    (other_real c.in_ok-tag.tag c.if-tag-ne-BSER_REAL.true) c.refuse_tag.ensures.reason c.refuse_tag.ensures.state

pub returns-in_err-bits-clause-refused : goal.returns-in_err-bits-clause-refused
returns-in_err-bits-clause-refused g c =
    let s : State = c.args.self.now.state in
    let m : State = (seen_of g.R.Lent.Lending.kept c.self.inside).state in
    let p = err_from_is_err_and c.from_residual-in_err-bits.result c.from_residual-in_err-bits.ensures.1 in
    let short = c.in_err-bits.ensures.refused.err in
    rw p.1 (real_refused _ s m _ c.in_ok-tag.tag c.if-tag-ne-BSER_REAL.false (rw (← c.self.view_is) at c.in_ok-tag.ensures.found) short.fails c.in_err-bits.ensures.refused.names)

pub returns-clause-found : goal.returns-clause-found
returns-clause-found g c =
    let s : State = c.args.self.now.state in
    let m : State = (seen_of g.R.Lent.Lending.kept c.self.inside).state in
    real_read s m _ c.in_ok-bits.bits c.in_ok-tag.tag c.if-tag-ne-BSER_REAL.false (rw (← c.self.view_is) at c.in_ok-tag.ensures.found) c.in_ok-bits.ensures.ok refl
