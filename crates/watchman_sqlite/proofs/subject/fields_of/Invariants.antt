use Rattle.std.proofs.Common.{◌≡◌, map}
use Rattle.watchman_sqlite.specs.Fields.{field_word}
use Rattle.watchman_sqlite.proofs.subject.fields_of.Given as goal

abbrev pub invariant-loop-word : goal.invariant-loop-word
invariant-loop-word l = map field_word l.fields.items ≡ map (λ word. word.now) l.yielded
