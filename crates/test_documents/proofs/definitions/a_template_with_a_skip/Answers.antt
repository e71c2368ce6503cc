use Rattle.std.proofs.Common.{refl}
use Rattle.std.specs.Str.{is_utf8, chars}
use Rattle.bser_format.specs.Canonical.{least_integer, canonical_key}
use Rattle.bser_format.specs.Named.{value}
use Rattle.test_documents.proofs.Computed.{is_read}
use Rattle.test_documents.proofs.definitions.a_template_with_a_skip.Goals as goal

pub returns-clause-read : goal.returns-clause-read
unfolding value is_utf8 chars lib.Utf8.encode least_integer canonical_key
returns-clause-read c = is_read _ _ _ refl refl

pub returns-clause-value : goal.returns-clause-value
unfolding value is_utf8 chars lib.Utf8.encode least_integer canonical_key
returns-clause-value c = refl

pub returns-clause-body : goal.returns-clause-body
unfolding value is_utf8 chars lib.Utf8.encode least_integer canonical_key
returns-clause-body c = refl

pub returns-clause-message : goal.returns-clause-message
unfolding value is_utf8 chars lib.Utf8.encode least_integer canonical_key
returns-clause-message c = refl

pub returns-clause-compact : goal.returns-clause-compact
unfolding value is_utf8 chars lib.Utf8.encode least_integer canonical_key
returns-clause-compact c = refl
