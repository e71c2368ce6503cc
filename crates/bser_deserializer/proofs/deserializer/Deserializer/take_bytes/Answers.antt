-- A string or key is taken after its tag.
use Rattle.std.proofs.Common.{◌∙◌, sym, ap, refl, map}
use Rattle.std.proofs.lemmas.Result.{err_from_is_err_and}
use Rattle.bser_deserializer.specs.State.{State, with_source, past}
use Rattle.bser_deserializer.specs.View.{seen_of}
use Rattle.bser_deserializer.proofs.Dues.{untagged}
use Rattle.bser_deserializer.proofs.Strings.{tagged, took_first, look_refused, other_refused, rest_refused}
use Rattle.bser_deserializer.proofs.Texts.{string_taken}
use Rattle.bser_deserializer.proofs.deserializer.Deserializer.take_bytes.Goals as goal

pub returns-in_err-fill-in-Node-clause-refused : goal.returns-in_err-fill-in-Node-clause-refused
returns-in_err-fill-in-Node-clause-refused g c =
    let s : State = (seen_of g.R.Lent.Lending.kept c.self.inside).state in
    let is = tagged (map g.R.Lent.Lending.kept c.self.inside.keys.items) c.self.inside.place c.self.inside.due c.in-Node.is in
    let n : State = with_source s c.fill.new.self.window in
    let p = err_from_is_err_and c.from_residual.result c.from_residual.ensures.1 in
    rw (← c.self.view_is, p.1) (look_refused _ s n is c.in_err-fill-in-Node.ensures.refused.err.fails c.in_err-fill-in-Node.ensures.refused.names)

pub returns-then-not-is_key_tag-clause-refused : goal.returns-then-not-is_key_tag-clause-refused
returns-then-not-is_key_tag-clause-refused g c =
    let s : State = (seen_of g.R.Lent.Lending.kept c.self.inside).state in
    let is = tagged (map g.R.Lent.Lending.kept c.self.inside.keys.items) c.self.inside.place c.self.inside.due c.in-Node.is in
    let n : State = c.refuse_tag.new.self.state in
    rw (← c.self.view_is, c.refuse_tag.ensures.reason)
    (other_refused _ s n _ is c.buffered.ensures c.in_ok-fill-in-Node.ensures.ok (sym c.is_key_tag.ensures ∙ c.if-not-is_key_tag.true) (ap (λ (z : State). z.source) c.refuse_tag.ensures.state))

pub returns-in_err-bytes-in-Node-clause-refused : goal.returns-in_err-bytes-in-Node-clause-refused
returns-in_err-bytes-in-Node-clause-refused g c =
    let s : State = (seen_of g.R.Lent.Lending.kept c.self.inside).state in
    let is = tagged (map g.R.Lent.Lending.kept c.self.inside.keys.items) c.self.inside.place c.self.inside.due c.in-Node.is in
    let n : State = with_source s c.next_string.new.self.window in
    let p = err_from_is_err_and c.from_residual-in_err-bytes-in-Node.result c.from_residual-in_err-bytes-in-Node.ensures.1 in
    let first = took_first _ _ _ _ c.buffered.ensures c.in_ok-fill-in-Node.ensures.ok c.consume.ensures.window in
    rw (← c.self.view_is, p.1) (rest_refused _ _ s n _ is (sym c.is_key_tag.ensures ∙ c.if-not-is_key_tag.false) first c.in_err-bytes-in-Node.ensures.err c.in_err-bytes-in-Node.ensures.names)

pub take_name-requires : goal.take_name-requires
take_name-requires g c =
    rw (← c.self.view_is)
    (untagged (map g.R.Lent.Lending.kept c.self.inside.keys.items) c.self.inside.place c.self.inside.due c.in_default.not-Node c.in_default.not-Key c.in_default.not-Field)

pub returns-in_ok-bytes-in-Node-clause-found : goal.returns-in_ok-bytes-in-Node-clause-found
returns-in_ok-bytes-in-Node-clause-found g c =
    let s : State = (seen_of g.R.Lent.Lending.kept c.self.inside).state in
    let is = tagged (map g.R.Lent.Lending.kept c.self.inside.keys.items) c.self.inside.place c.self.inside.due c.in-Node.is in
    let n : State = past s c.next_string.new.self.window in
    let first = took_first _ _ _ _ c.buffered.ensures c.in_ok-fill-in-Node.ensures.ok c.consume.ensures.window in
    rw (← c.self.view_is)
    (string_taken _ _ s n _ is (sym c.is_key_tag.ensures ∙ c.if-not-is_key_tag.false) first c.in_ok-bytes-in-Node.ensures.ok refl)
