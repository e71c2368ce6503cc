-- A name among all names, and the payload at its place.
use Rattle.std.proofs.Common.{◌≡◌, ℕ, List, length, map, ◌∙◌}
use Rattle.std.proofs.lemmas.List.{length-map}
use Rattle.std.proofs.lemmas.Result.{err_from_is_err_and}
use Rattle.std.specs.Borrow.{Bor}
use Rattle.bser_format.specs.Enums.{Payload}
use Rattle.bser_deserializer.specs.State.{State}
use Rattle.bser_deserializer.proofs.Openings.{if_ok, if_err}
use Rattle.bser_structs.specs.EnumAccess.{enum_head}
use Rattle.bser_structs.specs.ReadVariants.{OpenEnum}
use Rattle.bser_structs.proofs.VariantPlaces.{place_known, name_refused, place_read, place_refused}
use Rattle.bser_structs.proofs.enums.read_variants.Goals as goal

pub returns-in_err-place-clause-refused : goal.returns-in_err-place-clause-refused
returns-in_err-place-clause-refused g c =
    let names : List (List ℕ) = map (λ (r : Bor (List ℕ)). r.now) c.args.names.now in
    let ps : List Payload = g.P.ReadPayloads.payloads c.args.payloads.now in
    let same : length names ≡ length ps = length-map c.args.names.now (λ (r : Bor (List ℕ)). r.now) ∙ c.requires in
    let o : State = c.args.from.now.state in
    let z : State = c.open_variant.new.from.state in
    let p = err_from_is_err_and c.from_residual.result c.from_residual.ensures.1 in
    rw p.1 (name_refused c.args.name.now names ps (g.P.ReadPayloads.asks c.args.payloads.now) g.P.ReadPayloads.needs c.open_variant.new.from.refusal o z same c.in_err-place.ensures.refused)

pub returns-clause-found : goal.returns-clause-found
returns-clause-found g c =
    let names : List (List ℕ) = map (λ (r : Bor (List ℕ)). r.now) c.args.names.now in
    let ps : List Payload = g.P.ReadPayloads.payloads c.args.payloads.now in
    let same : length names ≡ length ps = length-map c.args.names.now (λ (r : Bor (List ℕ)). r.now) ∙ c.requires in
    let o : State = c.args.from.now.state in
    let v : OpenEnum = enum_head c.in_ok-place.head c.open_variant.new.from.state in
    let z : State = c.read_at.new.from.state in
    if_ok _ _ c.read_at.result (λ y r. place_read names ps (g.P.ReadPayloads.holds 0) o z v c.in_ok-place.place y same c.in_ok-place.ensures.found (r 0)) c.read_at.ensures.found

pub returns-clause-refused : goal.returns-clause-refused
returns-clause-refused g c =
    let names : List (List ℕ) = map (λ (r : Bor (List ℕ)). r.now) c.args.names.now in
    let ps : List Payload = g.P.ReadPayloads.payloads c.args.payloads.now in
    let same : length names ≡ length ps = length-map c.args.names.now (λ (r : Bor (List ℕ)). r.now) ∙ c.requires in
    let o : State = c.args.from.now.state in
    let v : OpenEnum = enum_head c.in_ok-place.head c.open_variant.new.from.state in
    let z : State = c.read_at.new.from.state in
    if_err _ _ c.read_at.result (λ r. place_refused c.args.name.now names ps (g.P.ReadPayloads.asks c.args.payloads.now) g.P.ReadPayloads.needs c.read_at.new.from.refusal o z v c.in_ok-place.place same c.in_ok-place.ensures.found (r (place_known names ps o v c.in_ok-place.place same c.in_ok-place.ensures.found))) c.read_at.ensures.refused
