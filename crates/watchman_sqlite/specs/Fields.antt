-- The words of fields.
use Rattle.std.specs.Prelude.{ℕ, List, [], ◌∷◌, ◌++◌, map, codes}
use Rattle.std.specs.List.{join_with_byte}
use Rattle.watchman_sqlite.specs.declared.subject.FileField.{FileField}
use Rattle.watchman_sqlite.specs.declared.subject.FileField.TheVariants.{Name, Exists, Size, Mode, «Type» as TypeOfFile, ModificationTime}

-- Watchman's word for a field
abbrev pub field_word : FileField → List ℕ
field_word Name = codes "name"
field_word Exists = codes "exists"
field_word Size = codes "size"
field_word Mode = codes "mode"
field_word TypeOfFile = codes "type"
field_word ModificationTime = codes "mtime_ms"

-- what parts the words of fields: a comma
abbrev pub comma : ℕ
comma = 44

-- the words of the fields, parted by commas
abbrev pub field_words : List FileField → List ℕ
field_words fields = join_with_byte comma (map field_word fields)

-- the words, and behind them another one
abbrev pub behind_words : List ℕ → List ℕ → List ℕ
behind_words [] word = word
behind_words (b ∷ bs) word = (b ∷ bs) ++ comma ∷ word
