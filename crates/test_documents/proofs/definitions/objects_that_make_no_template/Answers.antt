use Rattle.std.proofs.Common.{refl}
use Rattle.std.specs.Str.{is_utf8, chars}
use Rattle.bser_format.specs.Canonical.{least_integer, canonical_key}
use Rattle.bser_format.specs.Named.{value}
use Rattle.test_documents.proofs.definitions.objects_that_make_no_template.Goals as goal

pub returns-clause-one : goal.returns-clause-one
unfolding value is_utf8 chars lib.Utf8.encode least_integer canonical_key
returns-clause-one c = refl

pub returns-clause-no_keys : goal.returns-clause-no_keys
unfolding value is_utf8 chars lib.Utf8.encode least_integer canonical_key
returns-clause-no_keys c = refl

pub returns-clause-different : goal.returns-clause-different
unfolding value is_utf8 chars lib.Utf8.encode least_integer canonical_key
returns-clause-different c = refl
