use Rattle.watchman_index.proofs.Refusals.{clock_found, clock_none}
use Rattle.watchman_index.specs.contracts.told.ToldToldTypes.TheImpl.{ghosts}
use Rattle.watchman_index.proofs.told.subscribed_clock.Goals as goal

pub returns-in-Some-clause-found : goal.returns-in-Some-clause-found
returns-in-Some-clause-found c =
    clock_found ghosts.types c.args.bytes.now c.in_ok-answer.field-0 c.in-Some.answer c.in_ok-answer.ensures.found c.in-Some.is

pub returns-in-Some-clause-none : goal.returns-in-Some-clause-none
returns-in-Some-clause-none c =
    clock_none ghosts.types c.args.bytes.now c.in_ok-answer.field-0 c.in-Some.answer c.in_ok-answer.ensures.found c.in-Some.is
