-- The characters, one by one.
use Rattle.bser_types.proofs.Chars.{one_alone, more_than_one}
use Rattle.bser_types.proofs.impls.strings.only_char.Goals as goal

pub returns-in-Some-None : goal.returns-in-Some-None
returns-in-Some-None c = one_alone _ _ _ _ c.utf8.text c.chars-chars.ensures.rest c.in-Some-None.ensures.steps.0 c.in-Some-None.ensures'.steps.2

pub returns-in_default : goal.returns-in_default
returns-in_default c = more_than_one _ _ _ _ _ c.utf8.text c.chars-chars.ensures.rest c.in_default.ensures.steps.0 c.in_default.ensures'.steps.2
