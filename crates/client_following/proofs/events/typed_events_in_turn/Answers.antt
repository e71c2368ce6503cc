use Rattle.watchman_client.proofs.Loops.{gave, gave_all}
use Rattle.client_following.proofs.events.typed_events_in_turn.Goals as goal

pub returns : goal.returns
returns g c = record {
  items = gave g.row.W.Denot g.S.Source.remaining _ _;
  all = gave_all g.row.W.Denot g.S.Source.remaining _ _;
}
