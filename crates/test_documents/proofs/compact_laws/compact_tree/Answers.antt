use Rattle.std.proofs.Common.{refl}
use Rattle.std.specs.Str.{is_utf8, chars}
use Rattle.bser_format.specs.Canonical.{least_integer, canonical_key}
use Rattle.bser_format.specs.Named.{value}
use Rattle.test_documents.proofs.compact_laws.compact_tree.Goals as goal

pub returns-clause-same : goal.returns-clause-same
unfolding value is_utf8 chars lib.Utf8.encode least_integer canonical_key
returns-clause-same c = refl

pub returns-clause-value_depth : goal.returns-clause-value_depth
unfolding value is_utf8 chars lib.Utf8.encode least_integer canonical_key
returns-clause-value_depth c = refl

pub returns-clause-compact_depth : goal.returns-clause-compact_depth
unfolding value is_utf8 chars lib.Utf8.encode least_integer canonical_key
returns-clause-compact_depth c = refl
