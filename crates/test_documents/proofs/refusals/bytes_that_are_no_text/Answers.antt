use Rattle.std.proofs.Common.{refl}
use Rattle.std.specs.Str.{is_utf8, chars}
use Rattle.bser_format.specs.Named.{value}
use Rattle.test_documents.proofs.refusals.bytes_that_are_no_text.Goals as goal

pub returns-clause-text : goal.returns-clause-text
unfolding value is_utf8 chars lib.Utf8.encode
returns-clause-text c = refl

pub returns-clause-text_of_a_message : goal.returns-clause-text_of_a_message
unfolding value is_utf8 chars lib.Utf8.encode
returns-clause-text_of_a_message c = refl

pub returns-clause-key : goal.returns-clause-key
unfolding value is_utf8 chars lib.Utf8.encode
returns-clause-key c = refl

pub returns-clause-text_key : goal.returns-clause-text_key
unfolding value is_utf8 chars lib.Utf8.encode
returns-clause-text_key c = refl

pub returns-clause-template_key : goal.returns-clause-template_key
unfolding value is_utf8 chars lib.Utf8.encode
returns-clause-template_key c = refl

pub returns-clause-template_key_of_a_message : goal.returns-clause-template_key_of_a_message
unfolding value is_utf8 chars lib.Utf8.encode
returns-clause-template_key_of_a_message c = refl
