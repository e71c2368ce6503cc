use Rattle.std.proofs.Common.{refl}
use Rattle.std.specs.Str.{is_utf8, chars}
use Rattle.bser_format.specs.Canonical.{least_integer, canonical_key}
use Rattle.bser_format.specs.Named.{value}
use Rattle.test_documents.specs.Templates.{people_body, templates, hundred_nulls}
use Rattle.test_documents.specs.Spelled.{long_key_body}
use Rattle.test_documents.proofs.Computed.{is_body, value_of}
use Rattle.test_documents.proofs.format_laws.nodes_and_depth.Goals as goal

pub returns-clause-people : goal.returns-clause-people
unfolding value is_utf8 chars lib.Utf8.encode least_integer canonical_key
returns-clause-people c = is_body 2 people_body _ refl refl

pub returns-clause-people_value : goal.returns-clause-people_value
unfolding value is_utf8 chars lib.Utf8.encode least_integer canonical_key
returns-clause-people_value c = value_of 2 people_body _ _ refl refl refl

pub returns-clause-people_len : goal.returns-clause-people_len
unfolding value is_utf8 chars lib.Utf8.encode least_integer canonical_key
returns-clause-people_len c = refl

pub returns-clause-people_size : goal.returns-clause-people_size
unfolding value is_utf8 chars lib.Utf8.encode least_integer canonical_key
returns-clause-people_size c = (refl, refl, refl)

pub returns-clause-deep : goal.returns-clause-deep
unfolding value is_utf8 chars lib.Utf8.encode least_integer canonical_key
returns-clause-deep c = is_body 128 (templates 127) _ refl refl

pub returns-clause-deep_value : goal.returns-clause-deep_value
unfolding value is_utf8 chars lib.Utf8.encode least_integer canonical_key
returns-clause-deep_value c = value_of 128 (templates 127) _ _ refl refl refl

pub returns-clause-deep_len : goal.returns-clause-deep_len
unfolding value is_utf8 chars lib.Utf8.encode least_integer canonical_key
returns-clause-deep_len c = refl

pub returns-clause-deep_size : goal.returns-clause-deep_size
unfolding value is_utf8 chars lib.Utf8.encode least_integer canonical_key
returns-clause-deep_size c = (refl, refl, refl)

pub returns-clause-rows : goal.returns-clause-rows
unfolding value is_utf8 chars lib.Utf8.encode least_integer canonical_key
returns-clause-rows c = is_body 2 hundred_nulls _ refl refl

pub returns-clause-rows_value : goal.returns-clause-rows_value
unfolding value is_utf8 chars lib.Utf8.encode least_integer canonical_key
returns-clause-rows_value c = value_of 2 hundred_nulls _ _ refl refl refl

pub returns-clause-rows_len : goal.returns-clause-rows_len
unfolding value is_utf8 chars lib.Utf8.encode least_integer canonical_key
returns-clause-rows_len c = refl

pub returns-clause-rows_size : goal.returns-clause-rows_size
unfolding value is_utf8 chars lib.Utf8.encode least_integer canonical_key
returns-clause-rows_size c = (refl, refl, refl)

pub returns-clause-long_key : goal.returns-clause-long_key
unfolding value is_utf8 chars lib.Utf8.encode least_integer canonical_key
returns-clause-long_key c = is_body 2 long_key_body _ refl refl

pub returns-clause-long_key_value : goal.returns-clause-long_key_value
unfolding value is_utf8 chars lib.Utf8.encode least_integer canonical_key
returns-clause-long_key_value c = value_of 2 long_key_body _ _ refl refl refl

pub returns-clause-long_key_len : goal.returns-clause-long_key_len
unfolding value is_utf8 chars lib.Utf8.encode least_integer canonical_key
returns-clause-long_key_len c = refl

pub returns-clause-long_key_size : goal.returns-clause-long_key_size
unfolding value is_utf8 chars lib.Utf8.encode least_integer canonical_key
returns-clause-long_key_size c = (refl, refl, refl)
