use Rattle.std.proofs.Common.{refl}
use Rattle.std.specs.Str.{is_utf8, chars}
use Rattle.bser_format.specs.Named.{value}
use Rattle.test_documents.proofs.refusals.what_is_read.Goals as goal

pub returns-clause-number : goal.returns-clause-number
unfolding value is_utf8 chars lib.Utf8.encode
returns-clause-number c = refl

pub returns-clause-no_rows : goal.returns-clause-no_rows
unfolding value is_utf8 chars lib.Utf8.encode
returns-clause-no_rows c = refl

pub returns-clause-key : goal.returns-clause-key
unfolding value is_utf8 chars lib.Utf8.encode
returns-clause-key c = refl
