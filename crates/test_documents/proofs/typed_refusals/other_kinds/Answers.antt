use Rattle.std.proofs.Common.{refl}
use Rattle.std.specs.Str.{is_utf8, chars}
use Rattle.bser_format.specs.Named.{value}
use Rattle.test_documents.proofs.typed_refusals.other_kinds.Goals as goal

pub returns-clause-text : goal.returns-clause-text
unfolding value is_utf8 chars lib.Utf8.encode
returns-clause-text c = refl

pub returns-clause-unknown : goal.returns-clause-unknown
unfolding value is_utf8 chars lib.Utf8.encode
returns-clause-unknown c = refl

pub returns-clause-real : goal.returns-clause-real
unfolding value is_utf8 chars lib.Utf8.encode
returns-clause-real c = refl

pub returns-clause-inside : goal.returns-clause-inside
unfolding value is_utf8 chars lib.Utf8.encode
returns-clause-inside c = refl

pub returns-clause-option : goal.returns-clause-option
unfolding value is_utf8 chars lib.Utf8.encode
returns-clause-option c = refl

pub returns-clause-row : goal.returns-clause-row
unfolding value is_utf8 chars lib.Utf8.encode
returns-clause-row c = refl

pub returns-clause-integer_key : goal.returns-clause-integer_key
unfolding value is_utf8 chars lib.Utf8.encode
returns-clause-integer_key c = refl
