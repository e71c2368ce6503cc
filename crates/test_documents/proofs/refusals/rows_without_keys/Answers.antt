use Rattle.std.proofs.Common.{refl}
use Rattle.std.specs.Str.{is_utf8, chars}
use Rattle.bser_format.specs.Named.{value}
use Rattle.test_documents.proofs.refusals.rows_without_keys.Goals as goal

pub returns-clause-one : goal.returns-clause-one
unfolding value is_utf8 chars lib.Utf8.encode
returns-clause-one c = refl

pub returns-clause-many : goal.returns-clause-many
unfolding value is_utf8 chars lib.Utf8.encode
returns-clause-many c = refl

pub returns-clause-many_in_a_message : goal.returns-clause-many_in_a_message
unfolding value is_utf8 chars lib.Utf8.encode
returns-clause-many_in_a_message c = refl
