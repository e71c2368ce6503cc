use Rattle.std.proofs.Common.{refl}
use Rattle.std.specs.Str.{is_utf8, chars}
use Rattle.bser_format.specs.Canonical.{least_integer, canonical_key}
use Rattle.bser_format.specs.Named.{value}
use Rattle.test_documents.proofs.Computed.{is_read, is_refused}
use Rattle.test_documents.proofs.format_laws.one_front.Goals as goal

pub returns-clause-recorded : goal.returns-clause-recorded
unfolding value is_utf8 chars lib.Utf8.encode least_integer canonical_key
returns-clause-recorded c = is_read _ _ _ refl refl

pub returns-clause-followed : goal.returns-clause-followed
unfolding value is_utf8 chars lib.Utf8.encode least_integer canonical_key
returns-clause-followed c = refl

pub returns-clause-cut : goal.returns-clause-cut
unfolding value is_utf8 chars lib.Utf8.encode least_integer canonical_key
returns-clause-cut c = is_refused _ _ refl

pub returns-clause-template : goal.returns-clause-template
unfolding value is_utf8 chars lib.Utf8.encode least_integer canonical_key
returns-clause-template c = is_read _ _ _ refl refl

pub returns-clause-template_followed : goal.returns-clause-template_followed
unfolding value is_utf8 chars lib.Utf8.encode least_integer canonical_key
returns-clause-template_followed c = refl
