use Rattle.std.proofs.Common.{refl}
use Rattle.std.specs.Str.{is_utf8, chars}
use Rattle.bser_format.specs.Named.{value}
use Rattle.test_documents.proofs.refusals.strays.Goals as goal

pub returns-clause-unknown : goal.returns-clause-unknown
unfolding value is_utf8 chars lib.Utf8.encode
returns-clause-unknown c = refl

pub returns-clause-skip : goal.returns-clause-skip
unfolding value is_utf8 chars lib.Utf8.encode
returns-clause-skip c = refl

pub returns-clause-item : goal.returns-clause-item
unfolding value is_utf8 chars lib.Utf8.encode
returns-clause-item c = refl

pub returns-clause-field : goal.returns-clause-field
unfolding value is_utf8 chars lib.Utf8.encode
returns-clause-field c = refl

pub returns-clause-len : goal.returns-clause-len
unfolding value is_utf8 chars lib.Utf8.encode
returns-clause-len c = refl

pub returns-clause-count : goal.returns-clause-count
unfolding value is_utf8 chars lib.Utf8.encode
returns-clause-count c = refl

pub returns-clause-count_in_a_message : goal.returns-clause-count_in_a_message
unfolding value is_utf8 chars lib.Utf8.encode
returns-clause-count_in_a_message c = refl

pub returns-clause-message : goal.returns-clause-message
unfolding value is_utf8 chars lib.Utf8.encode
returns-clause-message c = refl

pub returns-clause-key : goal.returns-clause-key
unfolding value is_utf8 chars lib.Utf8.encode
returns-clause-key c = refl

pub returns-clause-template_keys : goal.returns-clause-template_keys
unfolding value is_utf8 chars lib.Utf8.encode
returns-clause-template_keys c = refl

pub returns-clause-template_key : goal.returns-clause-template_key
unfolding value is_utf8 chars lib.Utf8.encode
returns-clause-template_key c = refl

pub returns-clause-number_as_a_template_key : goal.returns-clause-number_as_a_template_key
unfolding value is_utf8 chars lib.Utf8.encode
returns-clause-number_as_a_template_key c = refl
