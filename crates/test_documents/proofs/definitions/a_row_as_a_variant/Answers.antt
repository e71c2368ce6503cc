use Rattle.std.proofs.Common.{refl}
use Rattle.std.specs.Str.{is_utf8, chars}
use Rattle.bser_format.specs.Canonical.{least_integer, canonical_key}
use Rattle.bser_format.specs.Named.{value}
use Rattle.test_documents.proofs.Computed.{is_read}
use Rattle.test_documents.proofs.definitions.a_row_as_a_variant.Goals as goal

pub returns-clause-read : goal.returns-clause-read
unfolding value is_utf8 chars lib.Utf8.encode least_integer canonical_key
returns-clause-read c = is_read _ _ _ refl refl

pub returns-clause-variants : goal.returns-clause-variants
unfolding value is_utf8 chars lib.Utf8.encode least_integer canonical_key
returns-clause-variants c = refl
