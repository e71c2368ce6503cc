-- What is due tells which form the variant may have.
use Rattle.std.proofs.Common.{◌≡◌, ◌∙◌, List, ℕ, map, ap}
use Rattle.std.proofs.lemmas.Result.{err_from_is_err_and}
use Rattle.bser_format.specs.Expected.{row_due}
use Rattle.bser_deserializer.specs.Dues.{due_of}
use Rattle.bser_deserializer.specs.State.{State}
use Rattle.bser_structs.proofs.Refused.{both_err, variant_refused, due_row_names, due_names}
use Rattle.bser_structs.proofs.variant.open_variant.Goals as goal

pub returns-in_err-place-in-Row-clause-refused : goal.returns-in_err-place-in-Row-clause-refused
returns-in_err-place-in-Row-clause-refused g c =
    let vs : List (List ℕ) = map (λ r. r.now) c.args.variants.now in
    let s : State = c.args.from.now.state in
    let z : State = c.open_row.new.from.state in
    let due : s.due ≡ row_due s.keys = c.due.ensures.due ∙ ap (due_of s.keys c.due.ensures.place) c.in-Row.is in
    let p = err_from_is_err_and c.from_residual.result c.from_residual.ensures.1 in
    rw p.1 (variant_refused c.args.name.now vs _ s z c.in_err-place-in-Row.ensures.err (due_row_names c.args.name.now vs s.keys _ s c.utf8.name due c.in_err-place-in-Row.ensures.names))

pub returns-in_err-read_place-in_default-clause-refused : goal.returns-in_err-read_place-in_default-clause-refused
returns-in_err-read_place-in_default-clause-refused g c =
    let vs : List (List ℕ) = map (λ r. r.now) c.args.variants.now in
    let s : State = c.args.from.now.state in
    let z : State = c.read_place.new.from.state in
    let p = err_from_is_err_and c.from_residual-in_err-read_place-in_default.result c.from_residual-in_err-read_place-in_default.ensures.1 in
    let fails = c.in_err-read_place-in_default.ensures.err in
    rw p.1 (variant_refused c.args.name.now vs _ s z fails
    (due_names c.args.name.now vs s.keys c.due.ensures.place c.due.result _ s c.utf8.name c.due.ensures.due c.in_default.not-Node c.in_default.not-Field c.in_default.not-Row
    c.in_err-read_place-in_default.ensures.names))

pub returns-in-Node-clause-refused : goal.returns-in-Node-clause-refused
returns-in-Node-clause-refused g c =
    let vs : List (List ℕ) = map (λ r. r.now) c.args.variants.now in
    let s : State = c.args.from.now.state in
    let z : State = c.open_value.new.from.state in
    both_err _ _ _ c.open_value.result (λ fails named. variant_refused c.args.name.now vs _ s z fails named) c.open_value.ensures.err c.open_value.ensures.names
