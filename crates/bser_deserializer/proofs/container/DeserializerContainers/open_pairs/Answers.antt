-- What stands there is an object, or a row is due.
use Rattle.std.proofs.Common.{◌∙◌, map, sym, ap, rules}
use Rattle.std.proofs.lemmas.Result.{err_from_is_err_and}
use Rattle.bser_deserializer.specs.Reading.{bare}
use Rattle.bser_deserializer.specs.State.{State}
use Rattle.bser_deserializer.proofs.Openings.{if_ok, if_err, opened_pairs, refused_pairs, other_pairs_tag, no_pairs_tag, failed_pairs}
use Rattle.bser_deserializer.proofs.container.DeserializerContainers.open_pairs.Goals as goal
use Rattle.bser_deserializer.proofs.container.DeserializerContainers.open_pairs.Goals.{else-eq-via-then-eq+else-not-is_failed, else-eq-via-else-eq}

pub returns-in_err-tag-clause-refused : goal.returns-in_err-tag-clause-refused
returns-in_err-tag-clause-refused g c =
    let p = err_from_is_err_and c.from_residual.result c.from_residual.ensures.1 in
    let old : State = c.args.self.now.state in
    let new : State = c.value_tag.new.self.state in
    rw p.1 (elim c.else-eq.branch [
      | else-eq-via-then-eq+else-not-is_failed w ↦ failed_pairs _ old new (sym w.is_failed.ensures.value ∙ w.if-not-is_failed.false) c.in_err-tag.ensures.err
      | else-eq-via-else-eq w ↦ no_pairs_tag (map g.R.Lent.Lending.kept c.self.inside.keys.items) c.self.inside.place c.self.inside.due _ old new (sym (ap (λ v. v.state.due) c.self.view_is)) (search rules) c.in_err-tag.ensures.err c.in_err-tag.ensures.names
    ])

pub returns-in-1-clause-found : goal.returns-in-1-clause-found
returns-in-1-clause-found g c =
    let old : State = c.args.self.now.state in
    let mid : State = c.value_tag.new.self.state in
    if_ok _ _ c.open_object.result (λ h o. opened_pairs old mid _ _ c.in_ok-tag.ensures.found o) c.open_object.ensures.found

pub returns-in-1-clause-refused : goal.returns-in-1-clause-refused
returns-in-1-clause-refused g c =
    let old : State = c.args.self.now.state in
    let mid : State = c.value_tag.new.self.state in
    if_err _ _ c.open_object.result (λ u. refused_pairs bare _ old mid _ _ c.in_ok-tag.ensures.found u) c.open_object.ensures.refused

pub returns-in_default-clause-refused : goal.returns-in_default-clause-refused
returns-in_default-clause-refused g c =
    let old : State = c.args.self.now.state in
    let mid : State = c.value_tag.new.self.state in
    let new : State = c.refuse_tag.new.self.state in
    other_pairs_tag _ old mid new _ c.in_ok-tag.ensures.found (λ e. search rules) c.refuse_tag.ensures.reason c.refuse_tag.ensures.state
