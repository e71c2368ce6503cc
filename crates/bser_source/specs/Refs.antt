-- What a reference to bytes or to a text holds.
use Rattle.std.specs.Prelude.{◌≡◌, ℕ, List, Bool, true, false, IsUtf8, ◌⊎◌}
use Rattle.bser_format.specs.Errors.{error_of}
use Rattle.bser_format.specs.declared.errors.Error.{Error}
use Rattle.bser_format.specs.declared.errors.Error.TheVariants.{OutOfMemory}
use Rattle.bser_format.specs.declared.errors.ReadCause.TheVariants.{Utf8}
use Rattle.bser_source.specs.declared.reference.Reference.{Reference}
use Rattle.bser_source.specs.declared.reference.Reference.TheVariants.{Borrowed, Copied}
use Rattle.bser_source.specs.declared.reference.TextReference.{TextReference}
use Rattle.bser_source.specs.declared.reference.TextReference.TheVariants as texts

-- the bytes
abbrev pub bytes_of : {L : Type 0} → (L → List ℕ) → Reference L → List ℕ
bytes_of lent (Borrowed bytes) = lent bytes
bytes_of lent (Copied bytes) = bytes.now

-- whether they are borrowed from the input
abbrev pub is_lent : {L : Type 0} → Reference L → Bool
is_lent (Borrowed bytes) = true
is_lent (Copied bytes) = false

-- the text, as its bytes
abbrev pub text_bytes : {T : Type 0} → (T → List ℕ) → TextReference T → List ℕ
text_bytes lent (texts.Borrowed text) = lent text
text_bytes lent (texts.Copied text) = text.now

-- whether it is borrowed from the input
abbrev pub is_lent_text : {T : Type 0} → TextReference T → Bool
is_lent_text (texts.Borrowed text) = true
is_lent_text (texts.Copied text) = false

-- bytes are not kept: there is no memory for the copy, or they are not UTF-8
abbrev pub RefusesKept : Bool → List ℕ → Error → Type 0
RefusesKept lends s e = ((e ≡ OutOfMemory) × (lends ≡ false)) ⊎ ((e ≡ error_of Utf8) × (¬ (IsUtf8 s)))
