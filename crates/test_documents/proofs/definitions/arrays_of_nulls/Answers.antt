use Rattle.std.proofs.Common.{refl}
use Rattle.std.specs.Str.{is_utf8, chars}
use Rattle.bser_format.specs.Canonical.{least_integer, canonical_key}
use Rattle.bser_format.specs.Named.{value}
use Rattle.test_documents.proofs.definitions.arrays_of_nulls.Goals as goal

pub returns-clause-body : goal.returns-clause-body
unfolding value is_utf8 chars lib.Utf8.encode least_integer canonical_key
returns-clause-body c = refl

pub returns-clause-message : goal.returns-clause-message
unfolding value is_utf8 chars lib.Utf8.encode least_integer canonical_key
returns-clause-message c = refl

pub returns-clause-longer_body : goal.returns-clause-longer_body
unfolding value is_utf8 chars lib.Utf8.encode least_integer canonical_key
returns-clause-longer_body c = refl

pub returns-clause-longer_message : goal.returns-clause-longer_message
unfolding value is_utf8 chars lib.Utf8.encode least_integer canonical_key
returns-clause-longer_message c = refl
