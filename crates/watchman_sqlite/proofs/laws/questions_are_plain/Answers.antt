-- The meaning of each text, computed.
use Rattle.watchman_sqlite.proofs.Plain.{files_plain, present_plain, suffix_plain, named_plain}
use Rattle.watchman_sqlite.proofs.laws.questions_are_plain.Goals as goal

pub returns-clause-files : goal.returns-clause-files
returns-clause-files c = files_plain

pub returns-clause-present : goal.returns-clause-present
returns-clause-present c = present_plain

pub returns-clause-suffix : goal.returns-clause-suffix
returns-clause-suffix c = suffix_plain

pub returns-clause-named : goal.returns-clause-named
returns-clause-named c = named_plain
