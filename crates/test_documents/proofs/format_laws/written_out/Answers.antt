use Rattle.std.proofs.Common.{refl}
use Rattle.std.specs.Str.{is_utf8, chars}
use Rattle.bser_format.specs.Canonical.{least_integer, canonical_key}
use Rattle.bser_format.specs.Named.{value}
use Rattle.test_documents.specs.Templates.{people_body}
use Rattle.test_documents.specs.Spelled.{people_out}
use Rattle.test_documents.specs.Samples.{empty_array}
use Rattle.test_documents.proofs.Computed.{is_body, value_of}
use Rattle.test_documents.proofs.Spelling.{people_written, no_keys_written}
use Rattle.test_documents.proofs.format_laws.written_out.Goals as goal

pub returns-clause-people : goal.returns-clause-people
unfolding value is_utf8 chars lib.Utf8.encode least_integer canonical_key
returns-clause-people c = people_written

pub returns-clause-people_len : goal.returns-clause-people_len
unfolding value is_utf8 chars lib.Utf8.encode least_integer canonical_key
returns-clause-people_len c = refl

pub returns-clause-people_out : goal.returns-clause-people_out
unfolding value is_utf8 chars lib.Utf8.encode least_integer canonical_key
returns-clause-people_out c = is_body 3 people_out _ refl refl

pub returns-clause-people_alike : goal.returns-clause-people_alike
unfolding value is_utf8 chars lib.Utf8.encode least_integer canonical_key
returns-clause-people_alike c = refl

pub returns-clause-people_value : goal.returns-clause-people_value
unfolding value is_utf8 chars lib.Utf8.encode least_integer canonical_key
returns-clause-people_value c = value_of 2 people_body _ _ refl refl refl

pub returns-clause-no_keys : goal.returns-clause-no_keys
unfolding value is_utf8 chars lib.Utf8.encode least_integer canonical_key
returns-clause-no_keys c = no_keys_written

pub returns-clause-no_keys_out : goal.returns-clause-no_keys_out
unfolding value is_utf8 chars lib.Utf8.encode least_integer canonical_key
returns-clause-no_keys_out c = is_body 3 empty_array _ refl refl
