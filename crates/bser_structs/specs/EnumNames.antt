-- An error of the calls on an enum is one of its type too.
use Rattle.std.specs.Prelude.{◌≡◌, ℕ, suc, Some}
use Rattle.bser_format.specs.declared.errors.Error.{Error}
use Rattle.bser_format.specs.declared.errors.name.EnumName.{EnumName}
use Rattle.bser_format.specs.DueReaders.{variant_due}
use Rattle.bser_format.specs.Asks.{Asks, Payloads, labels, payload, payload_asked, asks_enum}
use Rattle.bser_deserializer.specs.Reading.{Answers, NamesBy, Needs}
use Rattle.bser_deserializer.specs.State.{State}
use Rattle.bser_structs.specs.ReadVariants.{reads_place, HoldsPlace, LacksPayload, OpenVariant, OpensEntry}

-- the enum's own error for what is expected
abbrev pub NamesEnum : Needs → EnumName → Payloads → Error → State → Type 0
NamesEnum needs enum vs e s = NamesBy needs (asks_enum enum vs s.opened s.levels s.due) e s.source

-- an error of a variant is one that the enum gives
abbrev pub NamesOfVariants : Type 0
NamesOfVariants =
    (enum : EnumName) (vs : Payloads) (needs : Needs) (e : Error) (s : State)
    → NamesBy needs (variant_due enum s.opened s.levels (labels vs) s.due) e s.source → NamesEnum needs enum vs e s

-- a name alone where a payload is wanted, too
abbrev pub NamesOfLacking : Type 0
NamesOfLacking =
    (enum : EnumName) (vs : Payloads) (A : Asks) (needs : Needs) (e : Error) (old new last : State) (place : ℕ)
    → payload place vs ≡ Some A → Answers (reads_place (labels vs)) HoldsPlace old new place → LacksPayload e new last
    → NamesEnum needs enum vs e old

-- and so is a payload, which is inside one more open container
abbrev pub NamesOfPayloads : Type 0
NamesOfPayloads =
    (enum : EnumName) (vs : Payloads) (needs : Needs) (e : Error) (old : State) (new : OpenVariant) (place : ℕ)
    → OpensEntry (labels vs) old new place
    → NamesBy needs (payload_asked (payload place vs) (suc old.opened) new.state.levels new.payload) e new.state.source
    → NamesEnum needs enum vs e old
