-- Each variant by the payload at its place.
use Rattle.std.proofs.Common.{◌≡◌, ◌∙◌, ℕ, zero, suc, Bool, true, false, List, [], ◌∷◌, Some, refl, sym, ap, codes}
use Rattle.std.specs.Prelude.{◌||◌}
use Rattle.std.proofs.lemmas.Result.{err_from_is_err_and}
use Rattle.bser_format.specs.Content.{Meaning, one, variant}
use Rattle.bser_deserializer.specs.Reading.{Needs}
use Rattle.bser_format.specs.Enums.{Payload}
use Rattle.bser_format.specs.ReadsHolders.{reads_tuple}
use Rattle.bser_structs.specs.EnumAccess.{open_enum}
use Rattle.bser_deserializer.specs.HoldsLists.{HoldsTuple}
use Rattle.bser_types.specs.Slots.{struct_needs}
use Rattle.bser_types.specs.Tuples.{tuple_needs}
use Rattle.bser_deserializer.specs.State.{State}
use Rattle.bser_structs.specs.ReadVariants.{OpenEnum}
use Rattle.bser_structs.proofs.VariantNames.{payload_at}
use Rattle.bser_structs.proofs.ReadVariants.{place_there, enum_refused, unit_found, unit_refused, payload_found, payload_refused}
use Rattle.bser_structs.specs.VariantAskings.{VariantAskings}
use Rattle.bser_structs.proofs.VariantAskings.{asked_at}
use Rattle.bser_vectors.specs.Enums.{reads_test_struct, test_variants, test_askings}
use Rattle.bser_vectors.proofs.enums.TestEnumAnyDeserializeAny.deserialize.Goals as goal

-- the place after the first three is the fourth
last_place : (S : Meaning) (place : ℕ) (p : Payload) → (place ≡ 0 → ⊥) → (place ≡ 1 → ⊥) → (place ≡ 2 → ⊥) → payload_at place (test_variants S) ≡ Some p → place ≡ 3
last_place S zero p first second third e = absurd (first refl)
last_place S (suc zero) p first second third e = absurd (second refl)
last_place S (suc (suc zero)) p first second third e = absurd (third refl)
last_place S (suc (suc (suc zero))) p first second third e = refl
last_place S (suc (suc (suc (suc n)))) p first second third e = absurd cc

-- what a payload may lend, the enum may
lends_one : (b : Bool) → b ≡ true → (b || false) ≡ true
lends_one true e = refl
lends_one false e = absurd cc

lends_two : (b : Bool) → (b || (b || false)) ≡ true → (b || false) ≡ true
lends_two true e = refl
lends_two false e = absurd cc

pub returns-in_err-variant-clause-refused : goal.returns-in_err-variant-clause-refused
returns-in_err-variant-clause-refused g c =
    let p = err_from_is_err_and c.from_residual.result c.from_residual.ensures.1 in
    let needs : Needs = struct_needs (g.S.Shape.needs ∷ []) in
    rw p.1 (enum_refused (codes "TestEnum") (test_variants g.S.Shape.reads) (test_askings g.S.Shape.asks) needs _ (c.args.from.now.state)
    (c.read_enum.follows.lender-at-none.state) (rw c.in_err-variant.was at c.read_enum.follows.holds-at-none))

pub returns-in_err-unit_variant-in-0-clause-refused : goal.returns-in_err-unit_variant-in-0-clause-refused
returns-in_err-unit_variant-in-0-clause-refused g c =
    let vs : List (List ℕ × Payload) = test_variants g.S.Shape.reads in
    let qs : VariantAskings vs = test_askings g.S.Shape.asks in
    let needs : Needs = struct_needs (g.S.Shape.needs ∷ []) in
    let o : State = c.args.from.now.state in
    let v : OpenEnum = open_enum c.in_ok-variant.variant in
    let z : State = c.unit_variant.new.self.0.state in
    let p = err_from_is_err_and c.from_residual-in_err-unit_variant-in-0.result c.from_residual-in_err-unit_variant-in-0.ensures.1 in
    rw (p.1, c.from-in-0-1.given.1 (sym c.in_ok-variant.ensures.same_reference))
    (unit_refused (codes "TestEnum") vs qs needs _ o z v c.in_ok-variant.variant.place (ap (λ n. asked_at n vs qs) (sym c.place.ensures ∙ c.in-0.is)) c.in_ok-variant.ensures.found c.in_err-unit_variant-in-0.ensures.refused)

pub returns-in_ok-unit_variant-in-0-clause-found : goal.returns-in_ok-unit_variant-in-0-clause-found
returns-in_ok-unit_variant-in-0-clause-found g c =
    let vs : List (List ℕ × Payload) = test_variants g.S.Shape.reads in
    let o : State = c.args.from.now.state in
    let v : OpenEnum = open_enum c.in_ok-variant.variant in
    let z : State = c.unit_variant.new.self.0.state in
    rw (c.from-in-0-1.given.1 (sym c.in_ok-variant.ensures.same_reference))
    (unit_found vs _ o z v c.in_ok-variant.variant.place _ (ap (λ n. payload_at n vs) (sym c.place.ensures ∙ c.in-0.is)) c.in_ok-variant.ensures.found c.in_ok-unit_variant-in-0.ensures.found (ap (λ n. variant n one) (sym c.place.ensures ∙ c.in-0.is)))

pub returns-in_err-value-in-1-clause-refused : goal.returns-in_err-value-in-1-clause-refused
returns-in_err-value-in-1-clause-refused g c =
    let vs : List (List ℕ × Payload) = test_variants g.S.Shape.reads in
    let qs : VariantAskings vs = test_askings g.S.Shape.asks in
    let needs : Needs = struct_needs (g.S.Shape.needs ∷ []) in
    let o : State = c.args.from.now.state in
    let v : OpenEnum = open_enum c.in_ok-variant.variant in
    let z : State = c.newtype_variant.new.self.0.state in
    let p = err_from_is_err_and c.from_residual-in_err-value-in-1.result c.from_residual-in_err-value-in-1.ensures.1 in
    rw (p.1, c.from-in-1-1.given.1 (sym c.in_ok-variant.ensures.same_reference))
    (payload_refused (codes "TestEnum") vs qs g.S.Shape.reads g.S.Shape.asks g.S.Shape.needs needs _ o z v c.in_ok-variant.variant.place (lends_one g.S.Shape.needs.lent) (λ b. refl) (λ b. refl) (ap (λ n. asked_at n vs qs) (sym c.place.ensures ∙ c.in-1.is)) c.in_ok-variant.ensures.found c.in_err-value-in-1.ensures.refused)

pub returns-in_ok-value-in-1-clause-found : goal.returns-in_ok-value-in-1-clause-found
returns-in_ok-value-in-1-clause-found g c =
    let vs : List (List ℕ × Payload) = test_variants g.S.Shape.reads in
    let o : State = c.args.from.now.state in
    let v : OpenEnum = open_enum c.in_ok-variant.variant in
    let z : State = c.newtype_variant.new.self.0.state in
    rw (c.from-in-1-1.given.1 (sym c.in_ok-variant.ensures.same_reference))
    (payload_found vs g.S.Shape.reads g.S.Shape.holds _ o z v c.in_ok-variant.variant.place c.in_ok-value-in-1.value _ (ap (λ n. payload_at n vs) (sym c.place.ensures ∙ c.in-1.is)) c.in_ok-variant.ensures.found c.in_ok-value-in-1.ensures.found
    (λ d h. record { payload = d; whole = ap (λ n. variant n d) (sym c.place.ensures ∙ c.in-1.is); held = h }))

pub returns-in_err-first-in-2-clause-refused : goal.returns-in_err-first-in-2-clause-refused
returns-in_err-first-in-2-clause-refused g c =
    let vs : List (List ℕ × Payload) = test_variants g.S.Shape.reads in
    let qs : VariantAskings vs = test_askings g.S.Shape.asks in
    let needs : Needs = struct_needs (g.S.Shape.needs ∷ []) in
    let o : State = c.args.from.now.state in
    let v : OpenEnum = open_enum c.in_ok-variant.variant in
    let z : State = c.newtype_variant-in-2.new.self.0.state in
    let p = err_from_is_err_and c.from_residual-in_err-first-in-2.result c.from_residual-in_err-first-in-2.ensures.1 in
    rw (p.1, c.from-in-2-1.given.1 (sym c.in_ok-variant.ensures.same_reference))
    (payload_refused (codes "TestEnum") vs qs (reads_tuple (g.S.Shape.reads ∷ g.S.Shape.reads ∷ [])) _ (tuple_needs (g.S.Shape.needs ∷ g.S.Shape.needs ∷ []) (g.S.Shape.reads ∷ g.S.Shape.reads ∷ []) (g.S.Shape.plain, (g.S.Shape.plain, tt))) needs _ o z v c.in_ok-variant.variant.place (lends_two g.S.Shape.needs.lent) (λ b. refl) (λ b. refl) (ap (λ n. asked_at n vs qs) (sym c.place.ensures ∙ c.in-2.is)) c.in_ok-variant.ensures.found
    c.in_err-first-in-2.ensures.refused)

pub returns-in_ok-first-in-2-clause-found : goal.returns-in_ok-first-in-2-clause-found
returns-in_ok-first-in-2-clause-found g c =
    let vs : List (List ℕ × Payload) = test_variants g.S.Shape.reads in
    let o : State = c.args.from.now.state in
    let v : OpenEnum = open_enum c.in_ok-variant.variant in
    let z : State = c.newtype_variant-in-2.new.self.0.state in
    rw (c.from-in-2-1.given.1 (sym c.in_ok-variant.ensures.same_reference))
    (payload_found vs (reads_tuple (g.S.Shape.reads ∷ g.S.Shape.reads ∷ [])) (λ t d. HoldsTuple (g.S.Shape.holds t.0 ∷ g.S.Shape.holds t.1 ∷ []) d) _ o z v c.in_ok-variant.variant.place (c.in_ok-first-in-2.first, c.in_ok-first-in-2.second) _
    (ap (λ n. payload_at n vs) (sym c.place.ensures ∙ c.in-2.is)) c.in_ok-variant.ensures.found c.in_ok-first-in-2.ensures.found (λ d h. record { payload = d; whole = ap (λ n. variant n d) (sym c.place.ensures ∙ c.in-2.is); held = h }))

pub returns-in_err-abc-in_default-clause-refused : goal.returns-in_err-abc-in_default-clause-refused
returns-in_err-abc-in_default-clause-refused g c =
    let vs : List (List ℕ × Payload) = test_variants g.S.Shape.reads in
    let qs : VariantAskings vs = test_askings g.S.Shape.asks in
    let needs : Needs = struct_needs (g.S.Shape.needs ∷ []) in
    let o : State = c.args.from.now.state in
    let v : OpenEnum = open_enum c.in_ok-variant.variant in
    let z : State = c.newtype_variant-in_default.new.self.0.state in
    let p = err_from_is_err_and c.from_residual-in_err-abc-in_default.result c.from_residual-in_err-abc-in_default.ensures.1 in
    let there = place_there vs o v c.in_ok-variant.variant.place c.in_ok-variant.ensures.found in
    let other = c.in_default.in_default-own.rest in
    let fourth : c.in_ok-variant.variant.place ≡ 3 = last_place g.S.Shape.reads c.in_ok-variant.variant.place there.0 (λ e. other.0.0.1 (c.place.ensures ∙ e)) (λ e. other.0.1 (c.place.ensures ∙ e)) (λ e. other.1 (c.place.ensures ∙ e)) there.1 in
    rw (p.1, c.from-in_default-1.given.1 (sym c.in_ok-variant.ensures.same_reference))
    (payload_refused (codes "TestEnum") vs qs (reads_test_struct g.S.Shape.reads) _ _ needs _ o z v c.in_ok-variant.variant.place (lends_two g.S.Shape.needs.lent) (λ b. refl) (λ b. refl) (ap (λ n. asked_at n vs qs) fourth) c.in_ok-variant.ensures.found
    c.in_err-abc-in_default.ensures.refused)

pub returns-in_ok-abc-in_default-clause-found : goal.returns-in_ok-abc-in_default-clause-found
returns-in_ok-abc-in_default-clause-found g c =
    let vs : List (List ℕ × Payload) = test_variants g.S.Shape.reads in
    let o : State = c.args.from.now.state in
    let v : OpenEnum = open_enum c.in_ok-variant.variant in
    let z : State = c.newtype_variant-in_default.new.self.0.state in
    let there = place_there vs o v c.in_ok-variant.variant.place c.in_ok-variant.ensures.found in
    let other = c.in_default.in_default-own.rest in
    let fourth : c.in_ok-variant.variant.place ≡ 3 = last_place g.S.Shape.reads c.in_ok-variant.variant.place there.0 (λ e. other.0.0.1 (c.place.ensures ∙ e)) (λ e. other.0.1 (c.place.ensures ∙ e)) (λ e. other.1 (c.place.ensures ∙ e)) there.1 in
    rw (c.from-in_default-1.given.1 (sym c.in_ok-variant.ensures.same_reference))
    (payload_found vs (reads_test_struct g.S.Shape.reads) (λ t d. HoldsTuple (g.S.Shape.holds t.abc ∷ g.S.Shape.holds t.def ∷ []) d) _ o z v c.in_ok-variant.variant.place c.in_ok-abc-in_default.field-0 _
    (ap (λ n. payload_at n vs) fourth) c.in_ok-variant.ensures.found c.in_ok-abc-in_default.ensures.found
    (λ d h. record { payload = d; whole = ap (λ n. variant n d) fourth; held = h }))
