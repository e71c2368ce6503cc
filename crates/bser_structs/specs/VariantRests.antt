-- What the deserializer that an access to an enum borrows ends as, where a call fails.
use Rattle.std.specs.Prelude.{ℕ, List, Result}
use Rattle.std.specs.Borrow.{Bor, Fml, MutBor, RattleType}
use Rattle.bser_source.specs.declared.read.DeRead as source
use Rattle.bser_source.specs.declared.lending.Lending as lending
use Rattle.bser_deserializer.specs.Access.{RefusesItems, RefusesPairs}
use Rattle.bser_deserializer.specs.Seen.{Seen}
use Rattle.bser_types.specs.Accesses.{items_reference, pairs_reference}
use Rattle.bser_types.specs.Rests.{rests}
use Rattle.bser_types.specs.declared.seq.SeqAccess.{SeqAccess}
use Rattle.bser_types.specs.declared.map.MapAccess.{MapAccess}
use Rattle.bser_structs.specs.VariantCalls.{LacksAny, RefusesEnum}
use Rattle.bser_structs.specs.EnumAccess.{enum_deserializer, form_deserializer, open_enum, open_variant, unit_deserializer, variant_deserializer}
use Rattle.bser_structs.specs.ReadVariants.{RefusesStruct, RefusesTuple, before_payload}
use Rattle.bser_structs.specs.declared.enum_access.EnumAccess.{EnumAccess}
use Rattle.bser_structs.specs.declared.variant_access.EnumForm.{EnumForm}
use Rattle.bser_structs.specs.declared.variant_access.UnitVariantAccess.{UnitVariantAccess}
use Rattle.bser_structs.specs.declared.variant_access.VariantAccess.{VariantAccess}

-- over sources of this row, from which this is borrowed, and these keys are kept
module _ (R L K : RattleType) (g : source.Ghosts R.Denot L.Denot K.Denot) (h : lending.Ghosts L.Denot K.Denot) {E : Type 0} where
  -- it rests in an access to an enum, unless no variant is opened
  abbrev pub enum_rests : MutBor Seen → Result (EnumAccess R.Denot L.Denot K.Denot) E → List ℕ → List (Bor (List ℕ)) → Fml
  enum_rests d r name variants = rests R L K g h d (λ a. (enum_deserializer a).ghost_name) r (RefusesEnum name variants d.now)

  -- the same of an access of either form
  abbrev pub form_rests : MutBor Seen → Result (EnumForm R.Denot L.Denot K.Denot) E → List ℕ → List (Bor (List ℕ)) → Fml
  form_rests d r name variants = rests R L K g h d (λ f. (form_deserializer f).ghost_name) r (RefusesEnum name variants d.now)

  -- it rests in no access to items: a name alone has no payload
  abbrev pub lacking_seq_rests : UnitVariantAccess R.Denot L.Denot K.Denot → Result (SeqAccess R.Denot L.Denot K.Denot) E → Fml
  lacking_seq_rests u r = rests R L K g h (unit_deserializer u) items_reference r (LacksAny u)

  -- it rests in no access to entries: a name alone has no payload
  abbrev pub lacking_map_rests : UnitVariantAccess R.Denot L.Denot K.Denot → Result (MapAccess R.Denot L.Denot K.Denot) E → Fml
  lacking_map_rests u r = rests R L K g h (unit_deserializer u) pairs_reference r (LacksAny u)

  -- it rests in an access to the payload's items, unless that is no array or template
  abbrev pub payload_seq_rests : VariantAccess R.Denot L.Denot K.Denot → Result (SeqAccess R.Denot L.Denot K.Denot) E → Fml
  payload_seq_rests v r = rests R L K g h (variant_deserializer v) items_reference r (λ last. RefusesItems last.refusal (before_payload (open_variant v)) last.state)

  -- it rests in an access to the payload's entries, unless that is no object or row
  abbrev pub payload_map_rests : VariantAccess R.Denot L.Denot K.Denot → Result (MapAccess R.Denot L.Denot K.Denot) E → Fml
  payload_map_rests v r = rests R L K g h (variant_deserializer v) pairs_reference r (λ last. RefusesPairs last.refusal (before_payload (open_variant v)) last.state)

  -- it rests in an access to the payload's items, unless there is none, or no array or template
  abbrev pub tuple_rests : EnumAccess R.Denot L.Denot K.Denot → Result (SeqAccess R.Denot L.Denot K.Denot) E → Fml
  tuple_rests a r = rests R L K g h (enum_deserializer a) items_reference r (λ last. RefusesTuple last.refusal (open_enum a) last.state)

  -- it rests in an access to the payload's entries, unless there is none, or no object or row
  abbrev pub struct_rests : EnumAccess R.Denot L.Denot K.Denot → Result (MapAccess R.Denot L.Denot K.Denot) E → Fml
  struct_rests a r = rests R L K g h (enum_deserializer a) pairs_reference r (λ last. RefusesStruct last.refusal (open_enum a) last.state)
