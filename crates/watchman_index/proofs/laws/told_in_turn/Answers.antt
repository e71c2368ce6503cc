use Rattle.watchman_index.proofs.Runs.{told_the_same, untold_is_unknown, told_in_turn}
use Rattle.watchman_index.specs.contracts.told.ToldToldTypes.TheImpl.{ghosts}
use Rattle.watchman_index.proofs.laws.told_in_turn.Goals as goal

pub returns : goal.returns
returns c = record {
  same = told_the_same ghosts.types;
  unknown = untold_is_unknown ghosts.types;
  since = told_in_turn ghosts.types;
}
