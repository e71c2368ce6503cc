-- Which reader gives the errors of an enum's name.
use Rattle.std.specs.Prelude.{◌≡◌, ◌≤◌, ℕ, List, ◌++◌, length, Some, ◌==◌, if◌then◌else◌}
use Rattle.bser_format.specs.EnumName.{kept, kept_whole}
use Rattle.bser_format.specs.Expected.{Due, name_due, WantedPairs, entries_of_object, fields_of_row}
use Rattle.bser_format.specs.declared.errors.Error.{Error}
use Rattle.bser_format.specs.declared.errors.Kind.TheVariants.{MapKey}
use Rattle.bser_format.specs.declared.errors.Complaint.TheVariants.{EnumObjectEntries}
use Rattle.bser_format.specs.declared.errors.name.EnumName.{EnumName}
use Rattle.bser_format.specs.Named.{Reader, refuse, ◌>>=◌, complain, text_of}
use Rattle.bser_format.specs.DueReaders.{asked, text_at, place_from, variant_of_row, variant_due}
use Rattle.bser_deserializer.specs.Reading.{NamesBy, bare}
use Rattle.bser_deserializer.specs.State.{State}

-- the place of the name that is expected alone
abbrev pub place_due : ℕ → List (List ℕ) → Due → Reader ℕ
place_due opened vs (name_due k) = place_from 0 vs k
place_due opened vs d = asked text_at opened d >>= place_from 0 vs

-- the place of the key of the only entry
abbrev pub only_place : List (List ℕ) → WantedPairs → Reader ℕ
only_place vs (entries_of_object n) =
    (if n == 1 then text_of MapKey else refuse (complain EnumObjectEntries)) >>= place_from 0 vs
only_place vs (fields_of_row ks) = variant_of_row vs ks

-- what an error keeps of an enum's name: the whole, and in one form, or the beginning of one that
-- is long
pub record KeepsName (name : List ℕ) (enum : EnumName) : Type 0 where
  pub whole : length name ≤ 60 → kept enum ≡ name
  pub front : (rest : List ℕ) × (name ≡ kept enum ++ rest)
  pub known : (only : EnumName) → kept_whole name ≡ Some only → enum ≡ only

-- the error of a variant's name where an enum of this name is expected
abbrev pub NamesVariant : List ℕ → List (List ℕ) → Error → State → Type 0
NamesVariant name names e s =
    (enum : EnumName) × KeepsName name enum
    × NamesBy bare (variant_due enum s.opened s.levels names s.due) e s.source
