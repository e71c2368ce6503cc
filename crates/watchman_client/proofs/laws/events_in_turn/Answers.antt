use Rattle.watchman_client.proofs.Loops.{gave, gave_all}
use Rattle.watchman_client.specs.Requests.{ReadsOwned, UnreadOwned}
use Rattle.watchman_client.proofs.laws.events_in_turn.Goals as goal

pub returns : goal.returns
returns g c = record {
  items = gave g.row.W.Denot g.S.Source.remaining (ReadsOwned g.T.Shape) (UnreadOwned g.T.Shape);
  all = gave_all g.row.W.Denot g.S.Source.remaining (ReadsOwned g.T.Shape) (UnreadOwned g.T.Shape);
}
