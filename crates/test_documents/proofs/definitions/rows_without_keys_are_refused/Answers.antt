use Rattle.std.proofs.Common.{refl}
use Rattle.std.specs.Str.{is_utf8, chars}
use Rattle.bser_format.specs.Canonical.{least_integer, canonical_key}
use Rattle.bser_format.specs.Named.{value}
use Rattle.test_documents.proofs.Computed.{is_refused}
use Rattle.test_documents.proofs.definitions.rows_without_keys_are_refused.Goals as goal

pub returns-clause-one : goal.returns-clause-one
unfolding value is_utf8 chars lib.Utf8.encode least_integer canonical_key
returns-clause-one c = is_refused _ _ refl

pub returns-clause-many : goal.returns-clause-many
unfolding value is_utf8 chars lib.Utf8.encode least_integer canonical_key
returns-clause-many c = is_refused _ _ refl
