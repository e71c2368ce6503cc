use Rattle.std.proofs.Common.{refl, arith}
use Rattle.std.specs.Str.{is_utf8, chars}
use Rattle.bser_format.specs.Canonical.{least_integer, canonical_key}
use Rattle.bser_format.specs.Named.{value}
use Rattle.test_documents.proofs.Computed.{read_back}
use Rattle.test_documents.proofs.format_laws.reads_back.Goals as goal

pub returns-clause-small : goal.returns-clause-small
unfolding value is_utf8 chars lib.Utf8.encode least_integer canonical_key
returns-clause-small c = read_back _ _ _ refl refl refl refl refl (omega arith)

pub returns-clause-recorded : goal.returns-clause-recorded
unfolding value is_utf8 chars lib.Utf8.encode least_integer canonical_key
returns-clause-recorded c = read_back _ _ _ refl refl refl refl refl (omega arith)

pub returns-clause-deep : goal.returns-clause-deep
unfolding value is_utf8 chars lib.Utf8.encode least_integer canonical_key
returns-clause-deep c = read_back _ _ _ refl refl refl refl refl (omega arith)
