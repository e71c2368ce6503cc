use Rattle.std.proofs.Common.{refl, arith}
use Rattle.std.specs.Str.{is_utf8, chars}
use Rattle.bser_format.specs.Canonical.{least_integer, canonical_key}
use Rattle.bser_format.specs.Named.{value}
use Rattle.test_documents.specs.Samples.{same_key_twice}
use Rattle.test_documents.specs.Spelled.{people_out}
use Rattle.test_documents.proofs.Computed.{is_read, read_back, value_of}
use Rattle.test_documents.proofs.format_laws.least_length.Goals as goal

pub returns-clause-recorded : goal.returns-clause-recorded
unfolding value is_utf8 chars lib.Utf8.encode least_integer canonical_key
returns-clause-recorded c = is_read _ _ _ refl refl

pub returns-clause-recorded_free : goal.returns-clause-recorded_free
returns-clause-recorded_free c = (tt, (tt, tt))

pub returns-clause-recorded_least : goal.returns-clause-recorded_least
unfolding value is_utf8 chars lib.Utf8.encode least_integer canonical_key
returns-clause-recorded_least c = read_back _ _ _ refl refl refl refl refl (omega arith)

pub returns-clause-wide : goal.returns-clause-wide
unfolding value is_utf8 chars lib.Utf8.encode least_integer canonical_key
returns-clause-wide c = is_read _ _ _ refl refl

pub returns-clause-wide_free : goal.returns-clause-wide_free
returns-clause-wide_free c = ((tt, (tt, (tt, tt))), ((tt, (tt, (tt, tt))), tt))

pub returns-clause-wide_value : goal.returns-clause-wide_value
unfolding value is_utf8 chars lib.Utf8.encode least_integer canonical_key
returns-clause-wide_value c = value_of 3 people_out _ _ refl refl refl

pub returns-clause-wide_len : goal.returns-clause-wide_len
unfolding value is_utf8 chars lib.Utf8.encode least_integer canonical_key
returns-clause-wide_len c = refl

pub returns-clause-wide_least : goal.returns-clause-wide_least
unfolding value is_utf8 chars lib.Utf8.encode least_integer canonical_key
returns-clause-wide_least c = read_back _ _ _ refl refl refl refl refl (omega arith)

pub returns-clause-twice : goal.returns-clause-twice
unfolding value is_utf8 chars lib.Utf8.encode least_integer canonical_key
returns-clause-twice c = is_read _ _ _ refl refl

pub returns-clause-twice_free : goal.returns-clause-twice_free
returns-clause-twice_free c = (tt, (tt, tt))

pub returns-clause-twice_value : goal.returns-clause-twice_value
unfolding value is_utf8 chars lib.Utf8.encode least_integer canonical_key
returns-clause-twice_value c = value_of 1 same_key_twice _ _ refl refl refl

pub returns-clause-twice_len : goal.returns-clause-twice_len
unfolding value is_utf8 chars lib.Utf8.encode least_integer canonical_key
returns-clause-twice_len c = refl

pub returns-clause-twice_least : goal.returns-clause-twice_least
unfolding value is_utf8 chars lib.Utf8.encode least_integer canonical_key
returns-clause-twice_least c = read_back _ _ _ refl refl refl refl refl (omega arith)

pub returns-clause-template_len : goal.returns-clause-template_len
unfolding value is_utf8 chars lib.Utf8.encode least_integer canonical_key
returns-clause-template_len c = refl
