use Rattle.std.proofs.Common.{◌≡◌, string_bytes, take}
use Rattle.watchman_sqlite.specs.Fields.{field_words}
use Rattle.watchman_sqlite.proofs.subject.words_of.Given as goal

abbrev pub invariant-loop-field : goal.invariant-loop-field
invariant-loop-field l = string_bytes l.words ≡ field_words (take l.field-index l.fields)
