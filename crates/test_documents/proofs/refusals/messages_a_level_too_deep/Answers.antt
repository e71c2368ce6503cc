use Rattle.std.proofs.Common.{refl}
use Rattle.std.specs.Str.{is_utf8, chars}
use Rattle.bser_format.specs.Named.{value}
use Rattle.test_documents.proofs.refusals.messages_a_level_too_deep.Goals as goal

pub returns-clause-arrays : goal.returns-clause-arrays
unfolding value is_utf8 chars lib.Utf8.encode
returns-clause-arrays c = refl

pub returns-clause-keys : goal.returns-clause-keys
unfolding value is_utf8 chars lib.Utf8.encode
returns-clause-keys c = refl

pub returns-clause-template : goal.returns-clause-template
unfolding value is_utf8 chars lib.Utf8.encode
returns-clause-template c = refl

pub returns-clause-written_out : goal.returns-clause-written_out
unfolding value is_utf8 chars lib.Utf8.encode
returns-clause-written_out c = refl

pub returns-clause-no_level : goal.returns-clause-no_level
unfolding value is_utf8 chars lib.Utf8.encode
returns-clause-no_level c = refl

pub returns-clause-one_level : goal.returns-clause-one_level
unfolding value is_utf8 chars lib.Utf8.encode
returns-clause-one_level c = refl

pub returns-clause-two_levels : goal.returns-clause-two_levels
unfolding value is_utf8 chars lib.Utf8.encode
returns-clause-two_levels c = refl

pub returns-clause-most_levels : goal.returns-clause-most_levels
unfolding value is_utf8 chars lib.Utf8.encode
returns-clause-most_levels c = refl
