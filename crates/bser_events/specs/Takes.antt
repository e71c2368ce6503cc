-- What a plain reader leaves of the bytes that it begins with.
use Rattle.std.specs.Prelude.{◌≡◌, ℕ, List, IsUtf8}
use Rattle.bser_format.specs.Named as named
use Rattle.bser_format.specs.Named.{Reader, reads, front, text_of, ◌>>=◌}
use Rattle.bser_format.specs.declared.errors.Complaint.{Complaint}
use Rattle.bser_format.specs.declared.errors.Kind.{Kind}

-- r reads what is before the rest
abbrev pub Takes : {X : Type 0} → Reader X → List ℕ → List ℕ → Type 0
Takes {X} r b rest = (x : X) × (r b ≡ reads x rest)

-- an integer of at least 0, with this complaint of another
abbrev pub counting : Complaint → Reader ℕ
counting c = named.int >>= named.natural c

-- n bytes stand before the rest, which are UTF-8
pub record CutsText (n : ℕ) (b text rest : List ℕ) : Type 0 where
  pub front : front n b ≡ reads text rest
  pub utf8 : IsUtf8 text

-- a key is before the rest, of an object or of a template, which is UTF-8
pub record ReadsKey (b key rest : List ℕ) : Type 0 where
  pub read : (kind : Kind) → text_of kind b ≡ reads key rest
  pub utf8 : IsUtf8 key
