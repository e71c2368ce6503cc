use Rattle.std.proofs.Common.{refl}
use Rattle.std.specs.Str.{is_utf8, chars}
use Rattle.bser_format.specs.Canonical.{least_integer, canonical_key}
use Rattle.bser_format.specs.Named.{value}
use Rattle.test_documents.proofs.Computed.{is_read}
use Rattle.test_documents.proofs.definitions.keys_are_written_in_order.Goals as goal

pub returns-clause-value : goal.returns-clause-value
unfolding value is_utf8 chars lib.Utf8.encode least_integer canonical_key
returns-clause-value c = refl

pub returns-clause-written : goal.returns-clause-written
unfolding value is_utf8 chars lib.Utf8.encode least_integer canonical_key
returns-clause-written c = (refl, is_read _ _ _ refl refl)
