-- The key is due by itself where it is the only one.
use Rattle.std.proofs.Common.{◌≡◌, ◌∙◌, List, ℕ, map, sym, subst}
use Rattle.bser_format.specs.Expected.{WantedPairs}
use Rattle.bser_format.specs.declared.errors.Complaint.TheVariants.{EnumObjectEntries}
use Rattle.bser_format.specs.Named.{complain}
use Rattle.bser_deserializer.specs.Parts.{pairs_left, pair_key}
use Rattle.bser_deserializer.specs.Reading.{NamesBy, bare}
use Rattle.bser_deserializer.specs.State.{State, awaiting}
use Rattle.bser_deserializer.proofs.Refusals.{names_by_more}
use Rattle.bser_deserializer.specs.View.{pairs_head}
use Rattle.bser_deserializer.proofs.Openings.{if_err}
use Rattle.bser_deserializer.proofs.Tags.{complained_names}
use Rattle.bser_structs.specs.VariantNames.{place_due, only_place}
use Rattle.bser_structs.proofs.Names.{only_same, entries_refused}
use Rattle.bser_structs.proofs.variant_name.read_only_key.Goals as goal

pub returns-then-entries_in-ne1-clause-names : goal.returns-then-entries_in-ne1-clause-names
returns-then-entries_in-ne1-clause-names g c =
    let vs : List (List ℕ) = map (λ r. r.now) c.args.variants.now in
    let s : State = c.args.from.now.state in
    let w : WantedPairs = (pairs_head c.args.head s).wanted in
    complained_names bare (only_place vs w) (complain EnumObjectEntries) _ s.source c.complain.ensures.reason
    (λ x. entries_refused vs w x (λ e. c.if-entries_in-ne1.true (c.entries_in.ensures ∙ e)))

pub returns-clause-names : goal.returns-clause-names
returns-clause-names g c =
    let vs : List (List ℕ) = map (λ r. r.now) c.args.variants.now in
    let s : State = c.args.from.now.state in
    let w : WantedPairs = (pairs_head c.args.head s).wanted in
    let single : pairs_left w ≡ 1 = sym c.entries_in.ensures ∙ c.if-entries_in-ne1.false in
    if_err _ _ c.read_place.result
    (λ n. names_by_more bare (only_place vs w) (place_due s.opened vs (pair_key w)) c.read_place.new.from.refusal s.source (λ f x h. only_same s.opened vs w x single ∙ h)
    (subst (λ (z : State). NamesBy bare (place_due z.opened vs z.due) c.read_place.new.from.refusal z.source) {y = awaiting (pair_key w) s} c.await_first_key.ensures n))
    c.read_place.ensures.names
