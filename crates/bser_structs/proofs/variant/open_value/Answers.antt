-- The tag tells which form the variant has.
use Rattle.std.proofs.Common.{List, ℕ, map, rules}
use Rattle.std.proofs.lemmas.Result.{err_from_is_err_and}
use Rattle.bser_deserializer.specs.State.{State}
use Rattle.bser_structs.specs.EnumAccess.{variant_head}
use Rattle.bser_structs.proofs.Opened.{place_looked, entry_looked}
use Rattle.bser_structs.proofs.Refused.{no_tag_names, alone_names, looked_names, other_names}
use Rattle.bser_structs.proofs.variant.open_value.Goals as goal

pub returns-in_err-byte-clause-names : goal.returns-in_err-byte-clause-names
returns-in_err-byte-clause-names g c =
    let vs : List (List ℕ) = map (λ r. r.now) c.args.variants.now in
    let s : State = c.args.from.now.state in
    let p = err_from_is_err_and c.from_residual.result c.from_residual.ensures.1 in
    rw p.1 (no_tag_names c.args.name.now vs _ s c.utf8.name c.requires c.in_err-byte.ensures.names)

pub returns-in_err-read_place-in-2-clause-names : goal.returns-in_err-read_place-in-2-clause-names
returns-in_err-read_place-in-2-clause-names g c =
    let vs : List (List ℕ) = map (λ r. r.now) c.args.variants.now in
    let s : State = c.args.from.now.state in
    let m : State = c.value_tag.new.self.state in
    let p = err_from_is_err_and c.from_residual-in_err-read_place-in-2.result c.from_residual-in_err-read_place-in-2.ensures.1 in
    rw p.1 (alone_names c.args.name.now vs _ s m c.in_ok-byte.byte c.utf8.name c.in_ok-byte.ensures.found c.in-2.is c.in_err-read_place-in-2.ensures.names)

pub returns-in_err-place-in-1-clause-names : goal.returns-in_err-place-in-1-clause-names
returns-in_err-place-in-1-clause-names g c =
    let vs : List (List ℕ) = map (λ r. r.now) c.args.variants.now in
    let s : State = c.args.from.now.state in
    let m : State = c.value_tag.new.self.state in
    let p = err_from_is_err_and c.from_residual-in_err-place-in-1.result c.from_residual-in_err-place-in-1.ensures.1 in
    rw p.1 (looked_names c.args.name.now vs _ s m c.in_ok-byte.byte c.in_ok-byte.ensures.found c.in_err-place-in-1.ensures.names)

pub returns-in_ok-read_place-in-2-clause-found : goal.returns-in_ok-read_place-in-2-clause-found
returns-in_ok-read_place-in-2-clause-found g c =
    let vs : List (List ℕ) = map (λ r. r.now) c.args.variants.now in
    let s : State = c.args.from.now.state in
    let m : State = c.value_tag.new.self.state in
    let z : State = c.read_place.new.from.state in
    place_looked vs s m z c.in_ok-byte.byte c.in_ok-read_place-in-2.field-0 c.in_ok-byte.ensures.found c.in_ok-read_place-in-2.ensures.found

pub returns-in_ok-place-in-1-clause-found : goal.returns-in_ok-place-in-1-clause-found
returns-in_ok-place-in-1-clause-found g c =
    let vs : List (List ℕ) = map (λ r. r.now) c.args.variants.now in
    let s : State = c.args.from.now.state in
    let m : State = c.value_tag.new.self.state in
    let z : State = c.open_object.new.from.state in
    entry_looked vs s m (variant_head c.in_ok-place-in-1.head z) c.in_ok-byte.byte c.in_ok-place-in-1.place c.in_ok-byte.ensures.found c.in_ok-place-in-1.ensures.found

pub returns-in_default-clause-names : goal.returns-in_default-clause-names
returns-in_default-clause-names g c =
    let vs : List (List ℕ) = map (λ r. r.now) c.args.variants.now in
    let s : State = c.args.from.now.state in
    let m : State = c.value_tag.new.self.state in
    other_names c.args.name.now vs _ s m c.in_ok-byte.byte c.in_ok-byte.ensures.found (λ e. search rules) (λ e. search rules) (λ e. search rules) c.refuse_kind.ensures.reason
