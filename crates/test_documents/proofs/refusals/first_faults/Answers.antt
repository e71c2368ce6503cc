use Rattle.std.proofs.Common.{refl}
use Rattle.std.specs.Str.{is_utf8, chars}
use Rattle.bser_format.specs.Named.{value}
use Rattle.test_documents.proofs.refusals.first_faults.Goals as goal

pub returns-clause-fault_then_length : goal.returns-clause-fault_then_length
unfolding value is_utf8 chars lib.Utf8.encode
returns-clause-fault_then_length c = refl

pub returns-clause-items_in_order : goal.returns-clause-items_in_order
unfolding value is_utf8 chars lib.Utf8.encode
returns-clause-items_in_order c = refl

pub returns-clause-end_before_utf8 : goal.returns-clause-end_before_utf8
unfolding value is_utf8 chars lib.Utf8.encode
returns-clause-end_before_utf8 c = refl

pub returns-clause-level_before_count : goal.returns-clause-level_before_count
unfolding value is_utf8 chars lib.Utf8.encode
returns-clause-level_before_count c = refl
