-- What a message has, by what its bytes spell.
use Rattle.std.specs.Prelude.{◌≡◌, ℕ, ◌+◌, List, length, Option, Some, None}
use Rattle.std.specs.Io.KnownBytes.{Consumes}
use Rattle.bser_format.specs.Tree.{Tree}
use Rattle.bser_format.specs.Message.{IsMessage}
use Rattle.bser_events.specs.Events.{events}
use Rattle.bser_messages.specs.Streams.{StaysAtEnd}
use Rattle.bser_messages.specs.declared.limits.Limits.{Limits}
use Rattle.bser_views.specs.Counting.{counted_all, nothing_counted}
use Rattle.bser_views.specs.declared.tally.Summed.{Summed}

-- exactly one message within the limits was taken, as long as its header tells, and what was counted
-- are the events of the tree that it spells
pub record TookSummed (limits : Limits) (old new : Option (List ℕ)) (s : Summed) : Type 0 where
  pub text : List ℕ
  pub bytes : Consumes old new text
  pub tree : Tree
  pub message : IsMessage limits.levels s.header.capabilities tree text
  pub long : s.header.start + s.header.len ≡ length text
  pub counts : s.tally.counts ≡ counted_all (events tree) nothing_counted

-- the next message was taken and counted, or nothing was left
abbrev pub IsNextSummed : Limits → Option (List ℕ) → Option (List ℕ) → Option Summed → Type 0
IsNextSummed limits old new None = StaysAtEnd old new
IsNextSummed limits old new (Some s) = TookSummed limits old new s
