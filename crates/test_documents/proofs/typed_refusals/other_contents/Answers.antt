use Rattle.std.proofs.Common.{refl}
use Rattle.std.specs.Str.{is_utf8, chars}
use Rattle.bser_format.specs.Named.{value}
use Rattle.test_documents.proofs.typed_refusals.other_contents.Goals as goal

pub returns-clause-range : goal.returns-clause-range
unfolding value is_utf8 chars lib.Utf8.encode
returns-clause-range c = refl

pub returns-clause-cut : goal.returns-clause-cut
unfolding value is_utf8 chars lib.Utf8.encode
returns-clause-cut c = refl

pub returns-clause-byte : goal.returns-clause-byte
unfolding value is_utf8 chars lib.Utf8.encode
returns-clause-byte c = refl

pub returns-clause-utf8 : goal.returns-clause-utf8
unfolding value is_utf8 chars lib.Utf8.encode
returns-clause-utf8 c = refl

pub returns-clause-bytes : goal.returns-clause-bytes
unfolding value is_utf8 chars lib.Utf8.encode
returns-clause-bytes c = refl

pub returns-clause-two_chars : goal.returns-clause-two_chars
unfolding value is_utf8 chars lib.Utf8.encode
returns-clause-two_chars c = refl

pub returns-clause-fewer : goal.returns-clause-fewer
unfolding value is_utf8 chars lib.Utf8.encode
returns-clause-fewer c = refl

pub returns-clause-more : goal.returns-clause-more
unfolding value is_utf8 chars lib.Utf8.encode
returns-clause-more c = refl
