use Rattle.std.proofs.Common.{refl}
use Rattle.std.specs.Str.{is_utf8, chars}
use Rattle.bser_format.specs.Named.{value}
use Rattle.test_documents.proofs.typed_refusals.messages.Goals as goal

pub returns-clause-read : goal.returns-clause-read
unfolding value is_utf8 chars lib.Utf8.encode
returns-clause-read c = refl

pub returns-clause-type_first : goal.returns-clause-type_first
unfolding value is_utf8 chars lib.Utf8.encode
returns-clause-type_first c = refl

pub returns-clause-value_first : goal.returns-clause-value_first
unfolding value is_utf8 chars lib.Utf8.encode
returns-clause-value_first c = refl

pub returns-clause-len_last : goal.returns-clause-len_last
unfolding value is_utf8 chars lib.Utf8.encode
returns-clause-len_last c = refl
