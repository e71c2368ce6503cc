use Rattle.std.proofs.Common.{refl}
use Rattle.std.specs.Str.{is_utf8, chars}
use Rattle.bser_format.specs.Canonical.{least_integer, canonical_key}
use Rattle.bser_format.specs.Named.{value}
use Rattle.test_documents.proofs.definitions.two_objects_as_a_template.Goals as goal

pub returns : goal.returns
unfolding value is_utf8 chars lib.Utf8.encode least_integer canonical_key
returns c = refl
