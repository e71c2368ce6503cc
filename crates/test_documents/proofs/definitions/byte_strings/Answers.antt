use Rattle.std.proofs.Common.{refl}
use Rattle.std.specs.Str.{is_utf8, chars}
use Rattle.bser_format.specs.Canonical.{least_integer, canonical_key}
use Rattle.bser_format.specs.Named.{value}
use Rattle.test_documents.proofs.Computed.{is_read}
use Rattle.test_documents.proofs.definitions.byte_strings.Goals as goal

pub returns-clause-four : goal.returns-clause-four
unfolding value is_utf8 chars lib.Utf8.encode least_integer canonical_key
returns-clause-four c = (refl, is_read _ _ _ refl refl)

pub returns-clause-one_byte : goal.returns-clause-one_byte
unfolding value is_utf8 chars lib.Utf8.encode least_integer canonical_key
returns-clause-one_byte c = (refl, is_read _ _ _ refl refl)

pub returns-clause-one_byte_len : goal.returns-clause-one_byte_len
unfolding value is_utf8 chars lib.Utf8.encode least_integer canonical_key
returns-clause-one_byte_len c = refl

pub returns-clause-two_bytes : goal.returns-clause-two_bytes
unfolding value is_utf8 chars lib.Utf8.encode least_integer canonical_key
returns-clause-two_bytes c = (refl, is_read _ _ _ refl refl)

pub returns-clause-two_bytes_len : goal.returns-clause-two_bytes_len
unfolding value is_utf8 chars lib.Utf8.encode least_integer canonical_key
returns-clause-two_bytes_len c = refl
