use Rattle.std.proofs.Common.{refl}
use Rattle.std.specs.Str.{is_utf8, chars}
use Rattle.bser_format.specs.Canonical.{least_integer, canonical_key}
use Rattle.bser_format.specs.Named.{value}
use Rattle.test_documents.proofs.Computed.{is_read}
use Rattle.test_documents.proofs.definitions.integers_in_the_least_size.Goals as goal

pub returns-clause-two_bytes : goal.returns-clause-two_bytes
unfolding value is_utf8 chars lib.Utf8.encode least_integer canonical_key
returns-clause-two_bytes c = (refl, is_read _ _ _ refl refl)

pub returns-clause-negative : goal.returns-clause-negative
unfolding value is_utf8 chars lib.Utf8.encode least_integer canonical_key
returns-clause-negative c = (refl, is_read _ _ _ refl refl)

pub returns-clause-one_byte : goal.returns-clause-one_byte
unfolding value is_utf8 chars lib.Utf8.encode least_integer canonical_key
returns-clause-one_byte c = (refl, is_read _ _ _ refl refl)

pub returns-clause-eight_bytes : goal.returns-clause-eight_bytes
unfolding value is_utf8 chars lib.Utf8.encode least_integer canonical_key
returns-clause-eight_bytes c = (refl, is_read _ _ _ refl refl)
