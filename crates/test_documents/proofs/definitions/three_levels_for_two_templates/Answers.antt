use Rattle.std.proofs.Common.{refl}
use Rattle.std.specs.Str.{is_utf8, chars}
use Rattle.bser_format.specs.Canonical.{least_integer, canonical_key}
use Rattle.bser_format.specs.Named.{value}
use Rattle.test_documents.proofs.Computed.{is_read, is_refused}
use Rattle.test_documents.proofs.definitions.three_levels_for_two_templates.Goals as goal

pub returns-clause-read : goal.returns-clause-read
unfolding value is_utf8 chars lib.Utf8.encode least_integer canonical_key
returns-clause-read c = is_read _ _ _ refl refl

pub returns-clause-deep : goal.returns-clause-deep
unfolding value is_utf8 chars lib.Utf8.encode least_integer canonical_key
returns-clause-deep c = refl

pub returns-clause-refused : goal.returns-clause-refused
unfolding value is_utf8 chars lib.Utf8.encode least_integer canonical_key
returns-clause-refused c = is_refused _ _ refl
