use Rattle.std.proofs.Common.{refl}
use Rattle.std.specs.Str.{is_utf8, chars}
use Rattle.bser_format.specs.Named.{value}
use Rattle.test_documents.proofs.refusals.early_ends.Goals as goal

pub returns-clause-nothing : goal.returns-clause-nothing
unfolding value is_utf8 chars lib.Utf8.encode
returns-clause-nothing c = refl

pub returns-clause-magic : goal.returns-clause-magic
unfolding value is_utf8 chars lib.Utf8.encode
returns-clause-magic c = refl

pub returns-clause-capabilities : goal.returns-clause-capabilities
unfolding value is_utf8 chars lib.Utf8.encode
returns-clause-capabilities c = refl

pub returns-clause-len : goal.returns-clause-len
unfolding value is_utf8 chars lib.Utf8.encode
returns-clause-len c = refl

pub returns-clause-body : goal.returns-clause-body
unfolding value is_utf8 chars lib.Utf8.encode
returns-clause-body c = refl

pub returns-clause-number : goal.returns-clause-number
unfolding value is_utf8 chars lib.Utf8.encode
returns-clause-number c = refl

pub returns-clause-real : goal.returns-clause-real
unfolding value is_utf8 chars lib.Utf8.encode
returns-clause-real c = refl

pub returns-clause-string_len : goal.returns-clause-string_len
unfolding value is_utf8 chars lib.Utf8.encode
returns-clause-string_len c = refl

pub returns-clause-string : goal.returns-clause-string
unfolding value is_utf8 chars lib.Utf8.encode
returns-clause-string c = refl

pub returns-clause-count : goal.returns-clause-count
unfolding value is_utf8 chars lib.Utf8.encode
returns-clause-count c = refl

pub returns-clause-items : goal.returns-clause-items
unfolding value is_utf8 chars lib.Utf8.encode
returns-clause-items c = refl

pub returns-clause-entry : goal.returns-clause-entry
unfolding value is_utf8 chars lib.Utf8.encode
returns-clause-entry c = refl

pub returns-clause-keys : goal.returns-clause-keys
unfolding value is_utf8 chars lib.Utf8.encode
returns-clause-keys c = refl

pub returns-clause-field : goal.returns-clause-field
unfolding value is_utf8 chars lib.Utf8.encode
returns-clause-field c = refl
