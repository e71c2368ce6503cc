use Rattle.std.proofs.Common.{refl}
use Rattle.std.specs.Str.{is_utf8, chars}
use Rattle.bser_format.specs.Canonical.{least_integer, canonical_key}
use Rattle.bser_format.specs.Named.{value}
use Rattle.test_documents.specs.Templates.{people_message}
use Rattle.test_documents.proofs.Computed.{read_value, shorter}
use Rattle.test_documents.proofs.compact_laws.equal_compact_messages.Goals as goal

pub returns-clause-people : goal.returns-clause-people
unfolding value is_utf8 chars lib.Utf8.encode least_integer canonical_key
returns-clause-people c = read_value 128 people_message _ _ refl refl refl

pub returns-clause-size : goal.returns-clause-size
unfolding value is_utf8 chars lib.Utf8.encode least_integer canonical_key
returns-clause-size c = (refl, refl, refl)

pub returns-clause-different : goal.returns-clause-different
unfolding value is_utf8 chars lib.Utf8.encode least_integer canonical_key
returns-clause-different c = shorter _ _ refl
