-- The place where no value is made is that of its error.
use Rattle.bser_canonical.proofs.slice.compact_of.Goals as goal

pub returns-then-not-is_affordable-clause-place : goal.returns-then-not-is_affordable-clause-place
returns-then-not-is_affordable-clause-place c = c.unaffordable.ensures.place c.args.most
