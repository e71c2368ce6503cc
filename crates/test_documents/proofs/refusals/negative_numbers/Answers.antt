use Rattle.std.proofs.Common.{refl}
use Rattle.std.specs.Str.{is_utf8, chars}
use Rattle.bser_format.specs.Named.{value}
use Rattle.test_documents.proofs.refusals.negative_numbers.Goals as goal

pub returns-clause-message : goal.returns-clause-message
unfolding value is_utf8 chars lib.Utf8.encode
returns-clause-message c = refl

pub returns-clause-string : goal.returns-clause-string
unfolding value is_utf8 chars lib.Utf8.encode
returns-clause-string c = refl

pub returns-clause-least_string : goal.returns-clause-least_string
unfolding value is_utf8 chars lib.Utf8.encode
returns-clause-least_string c = refl

pub returns-clause-key : goal.returns-clause-key
unfolding value is_utf8 chars lib.Utf8.encode
returns-clause-key c = refl

pub returns-clause-items : goal.returns-clause-items
unfolding value is_utf8 chars lib.Utf8.encode
returns-clause-items c = refl

pub returns-clause-items_of_a_message : goal.returns-clause-items_of_a_message
unfolding value is_utf8 chars lib.Utf8.encode
returns-clause-items_of_a_message c = refl

pub returns-clause-entries : goal.returns-clause-entries
unfolding value is_utf8 chars lib.Utf8.encode
returns-clause-entries c = refl

pub returns-clause-keys : goal.returns-clause-keys
unfolding value is_utf8 chars lib.Utf8.encode
returns-clause-keys c = refl

pub returns-clause-rows : goal.returns-clause-rows
unfolding value is_utf8 chars lib.Utf8.encode
returns-clause-rows c = refl
