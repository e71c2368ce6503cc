-- What a record's columns hold can be read.
use Rattle.std.proofs.Common.{◌≡◌, ◌⊎◌, inl, inr, ℕ, ◌<◌, ◌^◌, pos, List, Option, Some, None, IfSome, IsUtf8, refl}
use Rattle.std.specs.Str.{is_utf8, chars}
use Rattle.std.proofs.lemmas.Str.{IsUtf8-from_is_utf8}
use Rattle.sqlite.specs.Values.{or_null}
use Rattle.sqlite.specs.declared.types.Value.{Value}
use Rattle.sqlite.specs.declared.types.Value.TheVariants.{Null, Int, Text}
use Rattle.watchman_types.specs.Words.{file_type_word}
use Rattle.watchman_types.specs.declared.file_type.FileType.{FileType}
use Rattle.watchman_types.specs.declared.file_type.FileType.TheVariants.{Regular, Directory, Symlink, BlockDevice, CharacterDevice, Fifo, Socket, Door, Unknown}
use Rattle.watchman_sqlite.specs.Columns.{number}

letter_is_text : (kind : FileType) → IsUtf8 (file_type_word kind)
unfolding is_utf8 chars lib.Utf8.encode
letter_is_text Regular = IsUtf8-from_is_utf8 (file_type_word Regular) refl
letter_is_text Directory = IsUtf8-from_is_utf8 (file_type_word Directory) refl
letter_is_text Symlink = IsUtf8-from_is_utf8 (file_type_word Symlink) refl
letter_is_text BlockDevice = IsUtf8-from_is_utf8 (file_type_word BlockDevice) refl
letter_is_text CharacterDevice = IsUtf8-from_is_utf8 (file_type_word CharacterDevice) refl
letter_is_text Fifo = IsUtf8-from_is_utf8 (file_type_word Fifo) refl
letter_is_text Socket = IsUtf8-from_is_utf8 (file_type_word Socket) refl
letter_is_text Door = IsUtf8-from_is_utf8 (file_type_word Door) refl
letter_is_text Unknown = IsUtf8-from_is_utf8 (file_type_word Unknown) refl

pub kind_readable : (kind : Option FileType) (v : Value) → v ≡ or_null (λ k. Text (file_type_word k)) kind → (v ≡ Null) ⊎ ((text : List ℕ) × (v ≡ Text text) × IsUtf8 text)
kind_readable None v is = inl is
kind_readable (Some k) v is = inr (file_type_word k, is, letter_is_text k)

pub mode_readable : (mode : Option ℕ) (v : Value) → IfSome mode (λ n. n < 2 ^ 32) → v ≡ or_null number mode → (v ≡ Null) ⊎ ((n : ℕ) × (v ≡ Int (pos n)) × (n < 2 ^ 32))
mode_readable None v fits is = inl is
mode_readable (Some n) v fits is = inr (n, is, fits)
