use Rattle.std.proofs.Common.{refl}
use Rattle.std.specs.Str.{is_utf8, chars}
use Rattle.bser_format.specs.Canonical.{least_integer, canonical_key}
use Rattle.bser_format.specs.Named.{value}
use Rattle.test_documents.proofs.Computed.{is_read, is_refused}
use Rattle.test_documents.proofs.definitions.keys_that_are_no_text.Goals as goal

pub returns-clause-written : goal.returns-clause-written
unfolding value is_utf8 chars lib.Utf8.encode least_integer canonical_key
returns-clause-written c = (refl, is_read _ _ _ refl refl)

pub returns-clause-no_value : goal.returns-clause-no_value
unfolding value is_utf8 chars lib.Utf8.encode least_integer canonical_key
returns-clause-no_value c = refl

pub returns-clause-not_ignored : goal.returns-clause-not_ignored
unfolding value is_utf8 chars lib.Utf8.encode least_integer canonical_key
returns-clause-not_ignored c = refl

pub returns-clause-map : goal.returns-clause-map
unfolding value is_utf8 chars lib.Utf8.encode least_integer canonical_key
returns-clause-map c = refl

pub returns-clause-refused : goal.returns-clause-refused
unfolding value is_utf8 chars lib.Utf8.encode least_integer canonical_key
returns-clause-refused c = is_refused _ _ refl
