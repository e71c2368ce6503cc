use Rattle.std.proofs.Common.{refl}
use Rattle.std.specs.Str.{is_utf8, chars}
use Rattle.bser_format.specs.Named.{value}
use Rattle.test_documents.proofs.refusals.frames.Goals as goal

pub returns-clause-magic : goal.returns-clause-magic
unfolding value is_utf8 chars lib.Utf8.encode
returns-clause-magic c = refl

pub returns-clause-long : goal.returns-clause-long
unfolding value is_utf8 chars lib.Utf8.encode
returns-clause-long c = refl

pub returns-clause-short : goal.returns-clause-short
unfolding value is_utf8 chars lib.Utf8.encode
returns-clause-short c = refl

pub returns-clause-followed : goal.returns-clause-followed
unfolding value is_utf8 chars lib.Utf8.encode
returns-clause-followed c = refl

pub returns-clause-great : goal.returns-clause-great
unfolding value is_utf8 chars lib.Utf8.encode
returns-clause-great c = refl

pub returns-clause-greatest : goal.returns-clause-greatest
unfolding value is_utf8 chars lib.Utf8.encode
returns-clause-greatest c = refl
