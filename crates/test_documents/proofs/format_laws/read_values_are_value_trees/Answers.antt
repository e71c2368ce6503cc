use Rattle.std.proofs.Common.{refl}
use Rattle.std.specs.Str.{is_utf8, chars}
use Rattle.bser_format.specs.Canonical.{least_integer, canonical_key}
use Rattle.bser_format.specs.Named.{value}
use Rattle.test_documents.specs.Templates.{people_body}
use Rattle.test_documents.specs.Recorded.{file_query}
use Rattle.test_documents.proofs.Computed.{is_read, read_value, value_of}
use Rattle.test_documents.proofs.format_laws.read_values_are_value_trees.Goals as goal

pub returns-clause-recorded : goal.returns-clause-recorded
unfolding value is_utf8 chars lib.Utf8.encode least_integer canonical_key
returns-clause-recorded c = is_read _ _ _ refl refl

pub returns-clause-recorded_value : goal.returns-clause-recorded_value
unfolding value is_utf8 chars lib.Utf8.encode least_integer canonical_key
returns-clause-recorded_value c = read_value 128 file_query _ _ refl refl refl

pub returns-clause-small : goal.returns-clause-small
unfolding value is_utf8 chars lib.Utf8.encode least_integer canonical_key
returns-clause-small c = is_read _ _ _ refl refl

pub returns-clause-small_value : goal.returns-clause-small_value
unfolding value is_utf8 chars lib.Utf8.encode least_integer canonical_key
returns-clause-small_value c = value_of 2 people_body _ _ refl refl refl
