use Rattle.std.proofs.Common.{refl}
use Rattle.std.specs.Str.{is_utf8, chars}
use Rattle.bser_format.specs.Canonical.{least_integer, canonical_key}
use Rattle.bser_format.specs.Named.{value}
use Rattle.test_documents.specs.Templates.{people_body}
use Rattle.test_documents.specs.Spelled.{people_out}
use Rattle.test_documents.specs.Recorded.{file_query}
use Rattle.test_documents.proofs.Computed.{read_value, shorter, value_of}
use Rattle.test_documents.proofs.format_laws.equal_messages.Goals as goal

pub returns-clause-template : goal.returns-clause-template
unfolding value is_utf8 chars lib.Utf8.encode least_integer canonical_key
returns-clause-template c = value_of 2 people_body _ _ refl refl refl

pub returns-clause-written_out : goal.returns-clause-written_out
unfolding value is_utf8 chars lib.Utf8.encode least_integer canonical_key
returns-clause-written_out c = value_of 3 people_out _ _ refl refl refl

pub returns-clause-recorded : goal.returns-clause-recorded
unfolding value is_utf8 chars lib.Utf8.encode least_integer canonical_key
returns-clause-recorded c = read_value 128 file_query _ _ refl refl refl

pub returns-clause-people_size : goal.returns-clause-people_size
unfolding value is_utf8 chars lib.Utf8.encode least_integer canonical_key
returns-clause-people_size c = (refl, refl, refl)

pub returns-clause-recorded_size : goal.returns-clause-recorded_size
unfolding value is_utf8 chars lib.Utf8.encode least_integer canonical_key
returns-clause-recorded_size c = (refl, refl, refl)

pub returns-clause-different : goal.returns-clause-different
unfolding value is_utf8 chars lib.Utf8.encode least_integer canonical_key
returns-clause-different c = shorter _ _ refl
