use Rattle.std.proofs.Common.{IsUtf8, refl, ap, subst, ◌∙◌}
use Rattle.std.proofs.lemmas.Str.{IsUtf8-string_bytes}
use Rattle.bser_format.proofs.bytestring.ByteString.into_string.Goals as goal

pub returns-in-Ok-clause-utf8 : goal.returns-in-Ok-clause-utf8
returns-in-Ok-clause-utf8 c = (λ _. subst IsUtf8 (ap (λ v. v.items) c.in-Ok.ensures.ok ∙ c.into_bytes.ensures) (IsUtf8-string_bytes c.in-Ok.text), λ _. refl)
