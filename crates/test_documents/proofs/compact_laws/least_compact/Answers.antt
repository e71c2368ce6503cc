use Rattle.std.proofs.Common.{refl}
use Rattle.std.specs.Str.{is_utf8, chars}
use Rattle.bser_format.specs.Canonical.{least_integer, canonical_key}
use Rattle.bser_format.specs.Named.{value}
use Rattle.test_documents.specs.Templates.{people_message}
use Rattle.test_documents.proofs.Computed.{is_read, read_value}
use Rattle.test_documents.proofs.compact_laws.least_compact.Goals as goal

pub returns-clause-read : goal.returns-clause-read
unfolding value is_utf8 chars lib.Utf8.encode least_integer canonical_key
returns-clause-read c = is_read _ _ _ refl refl

pub returns-clause-value : goal.returns-clause-value
unfolding value is_utf8 chars lib.Utf8.encode least_integer canonical_key
returns-clause-value c = read_value 128 people_message _ _ refl refl refl

pub returns-clause-given : goal.returns-clause-given
unfolding value is_utf8 chars lib.Utf8.encode least_integer canonical_key
returns-clause-given c = refl

pub returns-clause-compact : goal.returns-clause-compact
unfolding value is_utf8 chars lib.Utf8.encode least_integer canonical_key
returns-clause-compact c = refl

pub returns-clause-canonical : goal.returns-clause-canonical
unfolding value is_utf8 chars lib.Utf8.encode least_integer canonical_key
returns-clause-canonical c = refl
