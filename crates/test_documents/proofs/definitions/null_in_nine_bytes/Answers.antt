use Rattle.std.proofs.Common.{refl}
use Rattle.std.specs.Str.{is_utf8, chars}
use Rattle.bser_format.specs.Canonical.{least_integer, canonical_key}
use Rattle.bser_format.specs.Named.{value}
use Rattle.test_documents.proofs.Computed.{is_read}
use Rattle.test_documents.proofs.definitions.null_in_nine_bytes.Goals as goal

pub returns-clause-written : goal.returns-clause-written
unfolding value is_utf8 chars lib.Utf8.encode least_integer canonical_key
returns-clause-written c = (refl, is_read _ _ _ refl refl)

pub returns-clause-short : goal.returns-clause-short
unfolding value is_utf8 chars lib.Utf8.encode least_integer canonical_key
returns-clause-short c = refl

pub returns-clause-followed : goal.returns-clause-followed
unfolding value is_utf8 chars lib.Utf8.encode least_integer canonical_key
returns-clause-followed c = refl
