-- What an error keeps of an enum's name.
use Rattle.std.specs.Prelude.{◌≡◌, ◌≤◌, ◌-◌, ℕ, Bool, true, List, ◌++◌, take, length, replicate, Option, Some, None, IsUtf8, refl}
use Rattle.std.specs.Str.{is_utf8}
use Rattle.std.proofs.Common.{sym, subst}
use Rattle.std.proofs.Math.Dec.{leb}
use Rattle.std.proofs.Math.Seq.{take-append_seam}
use Rattle.std.proofs.lemmas.Bool.{leb-true}
use Rattle.std.proofs.lemmas.Str.{IsUtf8-from_is_utf8}
use Rattle.bser_format.specs.declared.errors.name.EnumName.{EnumName}

-- the bytes that are kept
abbrev pub kept : EnumName → List ℕ
kept name = take name.len name.bytes

-- a text of at most 60 bytes, with zeros behind it
abbrev pub padded : (name : List ℕ) → length name ≤ 60 → IsUtf8 name → EnumName
padded name within text =
    record {
      bytes = name ++ replicate (60 - length name) 0;
      len = length name;
      within = within;
      text = ∣ subst IsUtf8 (sym (take-append_seam name (replicate (60 - length name) 0))) text ∣₁;
    }

-- the same, by tests of its length and of its bytes
abbrev pub padded_if : (name : List ℕ) (short text : Bool) → leb (length name) 60 ≡ short
    → is_utf8 name ≡ text → Option EnumName
padded_if name true true short text = Some (padded name (leb-true (length name) 60 short) (IsUtf8-from_is_utf8 name text))
padded_if name _ _ short text = None

-- what is kept of a name that is kept whole: a text of at most 60 bytes
abbrev pub kept_whole : List ℕ → Option EnumName
kept_whole name = padded_if name (leb (length name) 60) (is_utf8 name) refl refl
