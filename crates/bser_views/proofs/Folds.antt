-- Counts that are told one after the other.
use Rattle.std.proofs.Common.{◌≡◌, ℕ, ◌+◌, List, length, Option, refl, subst}
use Rattle.bser_events.specs.Events.{Event, events}
use Rattle.bser_events.specs.Places.{TakesIn, none, more}
use Rattle.bser_events.specs.declared.event.Place.{Place}
use Rattle.bser_messages.specs.Told.{TookTold}
use Rattle.bser_messages.specs.declared.limits.Limits.{Limits}
use Rattle.bser_messages.specs.declared.told.Header.{Header}
use Rattle.bser_views.specs.Counting.{counted, counted_all, nothing_counted}
use Rattle.bser_views.specs.Summed.{TookSummed}
use Rattle.bser_views.specs.declared.tally.Tally.{Tally}

-- an event is counted
abbrev pub counts_it : Tally → Event → Place → Tally → Type 0
counts_it a e p b = b.counts ≡ counted e a.counts

pub folded : (at : ℕ) (bytes : List ℕ) (a b : Tally) (es : List Event) → TakesIn counts_it at bytes a es b → b.counts ≡ counted_all es a.counts
folded at bytes a b es (none n c) = refl
folded at bytes a b es (more n own rest m k o e others spelled one after) = subst (λ z. o.counts ≡ counted_all others z) one (folded (n + length own) rest k o others after)

-- a message that was told was counted
pub summed : (limits : Limits) (old new : Option (List ℕ)) (before after : Tally) (h : Header) → before.counts ≡ nothing_counted → TookTold limits counts_it old new before after h → TookSummed limits old new (record { header = h; tally = after })
summed limits old new before after h e t = record {
  text = t.text;
  bytes = t.bytes;
  tree = t.tells.tree;
  message = t.tells.message;
  long = t.tells.whole;
  counts = subst (λ c. after.counts ≡ counted_all (events t.tells.tree) c) e (folded _ _ _ _ _ t.tells.told);
}
