use Rattle.std.proofs.Common.{refl}
use Rattle.std.specs.Str.{is_utf8, chars}
use Rattle.bser_format.specs.Named.{value}
use Rattle.test_documents.proofs.typed_refusals.structs.Goals as goal

pub returns-clause-whole : goal.returns-clause-whole
unfolding value is_utf8 chars lib.Utf8.encode
returns-clause-whole c = refl

pub returns-clause-absent : goal.returns-clause-absent
unfolding value is_utf8 chars lib.Utf8.encode
returns-clause-absent c = refl

pub returns-clause-again : goal.returns-clause-again
unfolding value is_utf8 chars lib.Utf8.encode
returns-clause-again c = refl

pub returns-clause-passed_over : goal.returns-clause-passed_over
unfolding value is_utf8 chars lib.Utf8.encode
returns-clause-passed_over c = refl

pub returns-clause-row : goal.returns-clause-row
unfolding value is_utf8 chars lib.Utf8.encode
returns-clause-row c = refl

pub returns-clause-key : goal.returns-clause-key
unfolding value is_utf8 chars lib.Utf8.encode
returns-clause-key c = refl

pub returns-clause-null : goal.returns-clause-null
unfolding value is_utf8 chars lib.Utf8.encode
returns-clause-null c = refl

pub returns-clause-null_text : goal.returns-clause-null_text
unfolding value is_utf8 chars lib.Utf8.encode
returns-clause-null_text c = refl

pub returns-clause-fields : goal.returns-clause-fields
unfolding value is_utf8 chars lib.Utf8.encode
returns-clause-fields c = refl

pub returns-clause-namesake : goal.returns-clause-namesake
unfolding value is_utf8 chars lib.Utf8.encode
returns-clause-namesake c = refl
