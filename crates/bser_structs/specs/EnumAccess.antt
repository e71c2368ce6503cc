-- What callers see of an access to a variant.
use Rattle.std.specs.Prelude.{◌≡◌, ℕ, Option, Some, None}
use Rattle.std.specs.Borrow.{MutBor}
use Rattle.bser_deserializer.specs.Seen.{Seen}
use Rattle.bser_deserializer.specs.State.{State}
use Rattle.bser_deserializer.specs.declared.frames.MapHead.{MapHead}
use Rattle.bser_structs.specs.ReadVariants.{OpenVariant, OpenEnum, name_alone, with_payload, payload_due}
use Rattle.bser_structs.specs.declared.enum_access.EnumAccess.{EnumAccess}
use Rattle.bser_structs.specs.declared.variant_access.EnumForm.{EnumForm}
use Rattle.bser_structs.specs.declared.variant_access.EnumForm.TheVariants as form
use Rattle.bser_structs.specs.declared.variant_access.UnitVariantAccess.{UnitVariantAccess}
use Rattle.bser_structs.specs.declared.variant_access.VariantAccess.{VariantAccess}

-- a variant in an object or row of this head, in this state
abbrev pub variant_head : MapHead → State → OpenVariant
variant_head h s =
    record { state = s; payload = payload_due h.row; levels = h.levels; opened = h.opened }

-- the same, or a name alone
abbrev pub enum_head : Option MapHead → State → OpenEnum
enum_head None s = name_alone s
enum_head (Some h) s = with_payload (variant_head h s)

module _ {R L K : Type 0} where
  -- the deserializer that an access to an enum borrows
  abbrev pub enum_deserializer : EnumAccess R L K → MutBor Seen
  enum_deserializer a = a.from

  -- the variant whose payload it reads, or a name alone
  abbrev pub open_enum : EnumAccess R L K → OpenEnum
  open_enum a = enum_head a.head (enum_deserializer a).now.state

  -- the place of the variant's name
  abbrev pub place_of : EnumAccess R L K → ℕ
  place_of a = a.place

  -- it holds this reference to a deserializer
  abbrev pub IsEnumOf : MutBor Seen → EnumAccess R L K → Type 0
  IsEnumOf d a = (enum_deserializer a).ghost_name ≡ d.ghost_name

  -- the deserializer that an access to a name alone borrows
  abbrev pub unit_deserializer : UnitVariantAccess R L K → MutBor Seen
  unit_deserializer u = u.from

  -- the state in which the name is alone
  abbrev pub unit_state : UnitVariantAccess R L K → State
  unit_state u = (unit_deserializer u).now.state

  -- the deserializer that an access to a payload borrows
  abbrev pub variant_deserializer : VariantAccess R L K → MutBor Seen
  variant_deserializer v = v.from

  -- the variant whose payload it reads
  abbrev pub open_variant : VariantAccess R L K → OpenVariant
  open_variant v = variant_head v.head (variant_deserializer v).now.state

  -- the deserializer that an access of either form borrows
  abbrev pub form_deserializer : EnumForm R L K → MutBor Seen
  form_deserializer (form.Unit u) = unit_deserializer u
  form_deserializer (form.Object v) = variant_deserializer v

  -- the variant whose payload it reads, or a name alone
  abbrev pub open_form : EnumForm R L K → OpenEnum
  open_form (form.Unit u) = name_alone (unit_state u)
  open_form (form.Object v) = with_payload (open_variant v)

  -- the place of the variant's name
  abbrev pub place_in : EnumForm R L K → ℕ
  place_in (form.Unit u) = u.place
  place_in (form.Object v) = v.place

  -- it holds this reference to a deserializer
  abbrev pub IsFormOf : MutBor Seen → EnumForm R L K → Type 0
  IsFormOf d f = (form_deserializer f).ghost_name ≡ d.ghost_name
