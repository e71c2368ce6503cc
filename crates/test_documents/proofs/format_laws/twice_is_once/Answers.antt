use Rattle.std.proofs.Common.{refl, arith}
use Rattle.std.specs.Str.{is_utf8, chars}
use Rattle.bser_format.specs.Canonical.{least_integer, canonical_key}
use Rattle.bser_format.specs.Named.{value}
use Rattle.test_documents.specs.Templates.{people_message}
use Rattle.test_documents.specs.Recorded.{file_query}
use Rattle.test_documents.proofs.Computed.{is_read, read_back, read_value}
use Rattle.test_documents.proofs.format_laws.twice_is_once.Goals as goal

pub returns-clause-recorded : goal.returns-clause-recorded
unfolding value is_utf8 chars lib.Utf8.encode least_integer canonical_key
returns-clause-recorded c = is_read _ _ _ refl refl

pub returns-clause-value : goal.returns-clause-value
unfolding value is_utf8 chars lib.Utf8.encode least_integer canonical_key
returns-clause-value c = read_value 128 file_query _ _ refl refl refl

pub returns-clause-again : goal.returns-clause-again
unfolding value is_utf8 chars lib.Utf8.encode least_integer canonical_key
returns-clause-again c = read_back _ _ _ refl refl refl refl refl (omega arith)

pub returns-clause-followed : goal.returns-clause-followed
unfolding value is_utf8 chars lib.Utf8.encode least_integer canonical_key
returns-clause-followed c = refl

pub returns-clause-template : goal.returns-clause-template
unfolding value is_utf8 chars lib.Utf8.encode least_integer canonical_key
returns-clause-template c = is_read _ _ _ refl refl

pub returns-clause-template_value : goal.returns-clause-template_value
unfolding value is_utf8 chars lib.Utf8.encode least_integer canonical_key
returns-clause-template_value c = read_value 128 people_message _ _ refl refl refl

pub returns-clause-template_again : goal.returns-clause-template_again
unfolding value is_utf8 chars lib.Utf8.encode least_integer canonical_key
returns-clause-template_again c = read_back _ _ _ refl refl refl refl refl (omega arith)
