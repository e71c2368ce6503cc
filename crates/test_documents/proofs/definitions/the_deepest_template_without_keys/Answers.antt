use Rattle.std.proofs.Common.{refl}
use Rattle.std.specs.Str.{is_utf8, chars}
use Rattle.bser_format.specs.Canonical.{least_integer, canonical_key}
use Rattle.bser_format.specs.Named.{value}
use Rattle.test_documents.proofs.Computed.{is_read, is_refused}
use Rattle.test_documents.proofs.definitions.the_deepest_template_without_keys.Goals as goal

pub returns-clause-read : goal.returns-clause-read
unfolding value is_utf8 chars lib.Utf8.encode least_integer canonical_key
returns-clause-read c = is_read _ _ _ refl refl

pub returns-clause-keys_too_deep : goal.returns-clause-keys_too_deep
unfolding value is_utf8 chars lib.Utf8.encode least_integer canonical_key
returns-clause-keys_too_deep c = is_refused _ _ refl

pub returns-clause-too_deep : goal.returns-clause-too_deep
unfolding value is_utf8 chars lib.Utf8.encode least_integer canonical_key
returns-clause-too_deep c = is_refused _ _ refl
