use Rattle.std.proofs.Common.{refl}
use Rattle.std.specs.Str.{is_utf8, chars}
use Rattle.bser_format.specs.Named.{value}
use Rattle.test_documents.proofs.refusals.messages_that_break_off.Goals as goal

pub returns : goal.returns
unfolding value is_utf8 chars lib.Utf8.encode
returns c = refl
