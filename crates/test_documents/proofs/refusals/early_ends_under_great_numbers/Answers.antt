use Rattle.std.proofs.Common.{refl}
use Rattle.std.specs.Str.{is_utf8, chars}
use Rattle.bser_format.specs.Named.{value}
use Rattle.test_documents.proofs.refusals.early_ends_under_great_numbers.Goals as goal

pub returns-clause-string : goal.returns-clause-string
unfolding value is_utf8 chars lib.Utf8.encode
returns-clause-string c = refl

pub returns-clause-items : goal.returns-clause-items
unfolding value is_utf8 chars lib.Utf8.encode
returns-clause-items c = refl

pub returns-clause-keys : goal.returns-clause-keys
unfolding value is_utf8 chars lib.Utf8.encode
returns-clause-keys c = refl

pub returns-clause-rows : goal.returns-clause-rows
unfolding value is_utf8 chars lib.Utf8.encode
returns-clause-rows c = refl
