-- What the deserializer that an access borrows ends as, where a call fails and answers no access.
use Rattle.std.specs.Prelude.{Result, OnErr}
use Rattle.std.specs.Borrow.{Fml, GName, MutBor, RattleType, RestsIfErr}
use Rattle.bser_source.specs.declared.read.DeRead as source
use Rattle.bser_source.specs.declared.lending.Lending as lending
use Rattle.bser_deserializer.specs.contracts.deserializer.Deserializer as deserializer
use Rattle.bser_deserializer.specs.Access.{RefusesItems, RefusesPairs}
use Rattle.bser_deserializer.specs.Seen.{Seen}
use Rattle.bser_types.specs.Accesses.{items_reference, pairs_reference}
use Rattle.bser_types.specs.declared.seq.SeqAccess.{SeqAccess}
use Rattle.bser_types.specs.declared.map.MapAccess.{MapAccess}

-- over sources of this row, from which this is borrowed, and these keys are kept
module _ (R L K : RattleType) (g : source.Ghosts R.Denot L.Denot K.Denot) (h : lending.Ghosts L.Denot K.Denot) where
  -- it rests in the access under this name, and is as said where the call fails
  abbrev pub rests : {A E : Type 0} → MutBor Seen → (A → GName) → Result A E → (Seen → Type 0) → Fml
  rests d name r P = RestsIfErr (deserializer.the_row R L K g h) d name r (λ last. OnErr r (P last))

  -- it rests in an access to items, unless no array or template is opened
  abbrev pub seq_rests : {E : Type 0} → MutBor Seen → Result (SeqAccess R.Denot L.Denot K.Denot) E → Fml
  seq_rests d r = rests d items_reference r (λ last. RefusesItems last.refusal d.now.state last.state)

  -- it rests in an access to entries, unless no object or row is opened
  abbrev pub map_rests : {E : Type 0} → MutBor Seen → Result (MapAccess R.Denot L.Denot K.Denot) E → Fml
  map_rests d r = rests d pairs_reference r (λ last. RefusesPairs last.refusal d.now.state last.state)
