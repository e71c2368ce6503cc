use Rattle.std.proofs.Common.{refl}
use Rattle.std.specs.Str.{is_utf8, chars}
use Rattle.bser_format.specs.Named.{value}
use Rattle.test_documents.proofs.typed_refusals.enums.Goals as goal

pub returns-clause-number : goal.returns-clause-number
unfolding value is_utf8 chars lib.Utf8.encode
returns-clause-number c = λ enum. refl

pub returns-clause-unknown : goal.returns-clause-unknown
unfolding value is_utf8 chars lib.Utf8.encode
returns-clause-unknown c = λ enum. refl

pub returns-clause-none : goal.returns-clause-none
unfolding value is_utf8 chars lib.Utf8.encode
returns-clause-none c = λ enum. refl

pub returns-clause-level : goal.returns-clause-level
unfolding value is_utf8 chars lib.Utf8.encode
returns-clause-level c = λ enum. refl

pub returns-clause-payload : goal.returns-clause-payload
unfolding value is_utf8 chars lib.Utf8.encode
returns-clause-payload c = λ enum. refl

pub returns-clause-alone : goal.returns-clause-alone
unfolding value is_utf8 chars lib.Utf8.encode
returns-clause-alone c = λ enum. refl

pub returns-clause-row : goal.returns-clause-row
unfolding value is_utf8 chars lib.Utf8.encode
returns-clause-row c = λ enum. refl
