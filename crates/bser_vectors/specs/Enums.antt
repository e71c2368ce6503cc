-- What the enum of the worked messages, and a row that holds it, are read from, what they hold, and what names their refusals.
use Rattle.std.specs.Prelude.{◌≡◌, ℕ, List, [], ◌∷◌, codes, Option}
use Rattle.bser_format.specs.Content.{Content, one, variant, Meaning}
use Rattle.bser_format.specs.Enums.{Payload, unit, holds, reads_enum}
use Rattle.bser_format.specs.ReadsHolders.{reads_tuple}
use Rattle.bser_deserializer.specs.HoldsLists.{HoldsTuple}
use Rattle.bser_deserializer.specs.Reading.{Asking}
use Rattle.bser_types.specs.Slots.{required, reads_struct}
use Rattle.bser_structs.specs.Askings.{asking_struct}
use Rattle.bser_types.specs.Askings.{asking_tuple}
use Rattle.bser_structs.specs.VariantAskings.{VariantAskings, asking_enum}
use Rattle.bser_structs.specs.ReadVariants.{HoldsVariant}
use Rattle.bser_vectors.specs.declared.enums.EnumRow.{EnumRow}
use Rattle.bser_vectors.specs.declared.enums.TestEnum.{TestEnum}
use Rattle.bser_vectors.specs.declared.enums.TestEnum.TheVariants.{TestUnit, TestNewtype, TestTuple, TestStruct}

-- an object with two fields
abbrev pub reads_test_struct : Meaning → Meaning
reads_test_struct S = reads_struct (codes "abc" ∷ codes "def" ∷ []) (required S ∷ required S ∷ [])

abbrev pub asking_test_struct : {S : Meaning} → Option (Asking S) → Option (Asking (reads_test_struct S))
asking_test_struct {S = S} a =
    asking_struct (codes "abc" ∷ codes "def" ∷ []) (required S ∷ required S ∷ []) (a, (a, tt))

-- the names of the variants, each with its payload: none, one value, two values, and an object with two fields
abbrev pub test_variants : Meaning → List (List ℕ × Payload)
test_variants S = (codes "TestUnit", unit) ∷ (codes "TestNewtype", holds S) ∷ (codes "TestTuple", holds (reads_tuple (S ∷ S ∷ []))) ∷ (codes "TestStruct", holds (reads_test_struct S)) ∷ []

-- one of these variants
abbrev pub reads_test_enum : Meaning → Meaning
reads_test_enum S = reads_enum (test_variants S)

-- what each payload asks for, where its parts tell of names
abbrev pub test_askings : {S : Meaning} → Option (Asking S) → VariantAskings (test_variants S)
test_askings {S = S} a = (tt, (a, (asking_tuple (S ∷ S ∷ []) (a, (a, tt)), (asking_test_struct a, tt))))

abbrev pub asking_test_enum : {S : Meaning} → Option (Asking S) → Option (Asking (reads_test_enum S))
asking_test_enum {S = S} a = asking_enum (codes "TestEnum") (test_variants S) (test_askings a)

-- a variant holds its place and what its payload holds
abbrev pub HoldsTestEnum : {A : Type 0} → (A → Content → Type 0) → TestEnum A → Content → Type 0
HoldsTestEnum held TestUnit c = c ≡ variant 0 one
HoldsTestEnum held (TestNewtype x) c = HoldsVariant 1 (held x) c
HoldsTestEnum held (TestTuple x y) c = HoldsVariant 2 (HoldsTuple (held x ∷ held y ∷ [])) c
HoldsTestEnum held (TestStruct x y) c = HoldsVariant 3 (HoldsTuple (held x ∷ held y ∷ [])) c

-- an object with an enum
abbrev pub reads_enum_row : Meaning → Meaning
reads_enum_row S = reads_struct (codes "abc" ∷ []) (required (reads_test_enum S) ∷ [])

abbrev pub asking_enum_row : {S : Meaning} → Option (Asking S) → Option (Asking (reads_enum_row S))
asking_enum_row {S = S} a =
    asking_struct (codes "abc" ∷ []) (required (reads_test_enum S) ∷ []) (asking_test_enum a, tt)

abbrev pub HoldsEnumRow : {A : Type 0} → (A → Content → Type 0) → EnumRow A → Content → Type 0
HoldsEnumRow held v c = HoldsTuple (HoldsTestEnum held v.abc ∷ []) c
