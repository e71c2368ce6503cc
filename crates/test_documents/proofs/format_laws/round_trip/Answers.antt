use Rattle.std.proofs.Common.{refl, arith, pos}
use Rattle.std.specs.Str.{is_utf8, chars}
use Rattle.std.specs.Int.{w64}
use Rattle.bser_format.specs.Canonical.{least_integer, canonical_key}
use Rattle.bser_format.specs.Named.{value}
use Rattle.bser_format.proofs.Canon.{within_fits}
use Rattle.test_documents.proofs.Computed.{is_read}
use Rattle.test_documents.proofs.format_laws.round_trip.Goals as goal

pub returns-clause-numbers_free : goal.returns-clause-numbers_free
returns-clause-numbers_free c = (tt, (tt, (tt, tt)))

pub returns-clause-numbers_writable : goal.returns-clause-numbers_writable
unfolding value is_utf8 chars lib.Utf8.encode least_integer canonical_key
returns-clause-numbers_writable c = (omega arith, (within_fits w64 (pos 1) refl, (within_fits w64 (pos 2) refl, (within_fits w64 (pos 3) refl, tt))))

pub returns-clause-numbers_deep : goal.returns-clause-numbers_deep
unfolding value is_utf8 chars lib.Utf8.encode least_integer canonical_key
returns-clause-numbers_deep c = refl

pub returns-clause-numbers_len : goal.returns-clause-numbers_len
unfolding value is_utf8 chars lib.Utf8.encode least_integer canonical_key
returns-clause-numbers_len c = refl

pub returns-clause-numbers_read : goal.returns-clause-numbers_read
unfolding value is_utf8 chars lib.Utf8.encode least_integer canonical_key
returns-clause-numbers_read c = is_read _ _ _ refl refl

pub returns-clause-numbers_tuple : goal.returns-clause-numbers_tuple
unfolding value is_utf8 chars lib.Utf8.encode least_integer canonical_key
returns-clause-numbers_tuple c = refl

pub returns-clause-key_free : goal.returns-clause-key_free
returns-clause-key_free c = (tt, tt)

pub returns-clause-key_writable : goal.returns-clause-key_writable
returns-clause-key_writable c = (omega arith, (omega arith, tt, tt))

pub returns-clause-key_deep : goal.returns-clause-key_deep
unfolding value is_utf8 chars lib.Utf8.encode least_integer canonical_key
returns-clause-key_deep c = refl

pub returns-clause-key_len : goal.returns-clause-key_len
unfolding value is_utf8 chars lib.Utf8.encode least_integer canonical_key
returns-clause-key_len c = refl

pub returns-clause-key_read : goal.returns-clause-key_read
unfolding value is_utf8 chars lib.Utf8.encode least_integer canonical_key
returns-clause-key_read c = is_read _ _ _ refl refl

pub returns-clause-key_map : goal.returns-clause-key_map
unfolding value is_utf8 chars lib.Utf8.encode least_integer canonical_key
returns-clause-key_map c = refl
