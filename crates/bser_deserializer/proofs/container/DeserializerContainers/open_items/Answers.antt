-- What stands there is an array or a template.
use Rattle.std.proofs.Common.{rules}
use Rattle.std.proofs.lemmas.Result.{err_from_is_err_and}
use Rattle.bser_deserializer.specs.Reading.{bare}
use Rattle.bser_deserializer.specs.State.{State}
use Rattle.bser_deserializer.proofs.Openings.{if_ok, if_err, opened_items, refused_items, bare_items, template_items, no_items_tag, other_items_tag}
use Rattle.bser_deserializer.proofs.container.DeserializerContainers.open_items.Goals as goal

pub returns-in_err-tag-clause-refused : goal.returns-in_err-tag-clause-refused
returns-in_err-tag-clause-refused g c =
    let p = err_from_is_err_and c.from_residual.result c.from_residual.ensures.1 in
    let old : State = c.args.self.now.state in
    let new : State = c.value_tag.new.self.state in
    rw p.1 (no_items_tag _ old new c.in_err-tag.ensures.err c.in_err-tag.ensures.names)

pub returns-in-0-clause-found : goal.returns-in-0-clause-found
returns-in-0-clause-found g c =
    let old : State = c.args.self.now.state in
    let mid : State = c.value_tag.new.self.state in
    if_ok _ _ c.open_array.result (λ h o. opened_items old mid _ _ c.in_ok-tag.ensures.found o) c.open_array.ensures.found

pub returns-in-0-clause-refused : goal.returns-in-0-clause-refused
returns-in-0-clause-refused g c =
    let old : State = c.args.self.now.state in
    let mid : State = c.value_tag.new.self.state in
    let new : State = c.open_array.new.self.state in
    if_err _ _ c.open_array.result (λ u. bare_items _ old new (refused_items bare _ old mid _ _ c.in_ok-tag.ensures.found u)) c.open_array.ensures.refused

pub returns-in-11-clause-found : goal.returns-in-11-clause-found
returns-in-11-clause-found g c =
    let old : State = c.args.self.now.state in
    let mid : State = c.value_tag.new.self.state in
    if_ok _ _ c.open_template.result (λ h o. opened_items old mid _ _ c.in_ok-tag.ensures.found o) c.open_template.ensures.found

pub returns-in-11-clause-refused : goal.returns-in-11-clause-refused
returns-in-11-clause-refused g c =
    let old : State = c.args.self.now.state in
    let mid : State = c.value_tag.new.self.state in
    let new : State = c.open_template.new.self.state in
    if_err _ _ c.open_template.result (λ u. template_items _ old mid new (rw c.in-11.is at c.in_ok-tag.ensures.found) u) c.open_template.ensures.refused

pub returns-in_default-clause-refused : goal.returns-in_default-clause-refused
returns-in_default-clause-refused g c =
    let old : State = c.args.self.now.state in
    let mid : State = c.value_tag.new.self.state in
    let new : State = c.refuse_tag.new.self.state in
    other_items_tag _ old mid new _ c.in_ok-tag.ensures.found (λ e. search rules) (λ e. search rules) c.refuse_tag.ensures.reason c.refuse_tag.ensures.state
