use Rattle.std.proofs.Common.{refl}
use Rattle.std.specs.Str.{is_utf8, chars}
use Rattle.bser_format.specs.Named.{value}
use Rattle.test_documents.proofs.refusals.a_level_too_many.Goals as goal

pub returns-clause-array : goal.returns-clause-array
unfolding value is_utf8 chars lib.Utf8.encode
returns-clause-array c = refl

pub returns-clause-object : goal.returns-clause-object
unfolding value is_utf8 chars lib.Utf8.encode
returns-clause-object c = refl

pub returns-clause-template : goal.returns-clause-template
unfolding value is_utf8 chars lib.Utf8.encode
returns-clause-template c = refl

pub returns-clause-keys : goal.returns-clause-keys
unfolding value is_utf8 chars lib.Utf8.encode
returns-clause-keys c = refl

pub returns-clause-no_keys : goal.returns-clause-no_keys
unfolding value is_utf8 chars lib.Utf8.encode
returns-clause-no_keys c = refl

pub returns-clause-deepest : goal.returns-clause-deepest
unfolding value is_utf8 chars lib.Utf8.encode
returns-clause-deepest c = refl
