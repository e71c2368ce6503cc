use Rattle.std.proofs.Common.{refl}
use Rattle.std.specs.Str.{is_utf8, chars}
use Rattle.bser_format.specs.Canonical.{least_integer, canonical_key}
use Rattle.bser_format.specs.Named.{value}
use Rattle.bser_format.specs.Compact.{compact_message}
use Rattle.test_documents.specs.Templates.{people_value}
use Rattle.test_documents.proofs.Computed.{is_read, read_value}
use Rattle.test_documents.proofs.compact_laws.compact_reads_back.Goals as goal

pub returns-clause-size : goal.returns-clause-size
unfolding value is_utf8 chars lib.Utf8.encode least_integer canonical_key
returns-clause-size c = refl

pub returns-clause-read : goal.returns-clause-read
unfolding value is_utf8 chars lib.Utf8.encode least_integer canonical_key
returns-clause-read c = is_read _ _ _ refl refl

pub returns-clause-levels : goal.returns-clause-levels
unfolding value is_utf8 chars lib.Utf8.encode least_integer canonical_key
returns-clause-levels c = is_read _ _ _ refl refl

pub returns-clause-value : goal.returns-clause-value
unfolding value is_utf8 chars lib.Utf8.encode least_integer canonical_key
returns-clause-value c = read_value 128 (compact_message people_value) _ _ refl refl refl
