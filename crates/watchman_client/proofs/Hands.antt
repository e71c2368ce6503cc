-- The message in hand, and what is left behind it.
use Rattle.std.proofs.Common.{◌≡◌, ℕ, Bool, true, false, List, [], Option, Some, None, refl}
use Rattle.std.specs.Prelude.{if◌then◌else◌}
use Rattle.std.specs.Io.KnownBytes.{Consumes, prepend_known}
use Rattle.watchman_client.proofs.Runs.{false_true}
use Rattle.watchman_client.specs.Steps.{IsNextKind}
use Rattle.watchman_client.specs.Views.{Hand, HasNext, left_of}
use Rattle.bser_frames.specs.Stream.{left}

-- the message in hand is in front of what is left
pub front_there : (held : Bool) (m : List ℕ) (r : Option (List ℕ)) → held ≡ true → Consumes (prepend_known (if held then m else []) r) r m
front_there true m None e = tt
front_there true m (Some x) e = refl
front_there false m r e = false_true e

pub next_in_hand : {S : Type 0} (remaining : S → Option (List ℕ)) (u : Bool) (h : Hand S) → HasNext u h → IsNextKind u (left_of remaining h)
next_in_hand remaining u h n = record {
  bytes = h.stream.frame;
  rest = left remaining h.stream;
  frame = n.frame;
  kind = n.kind;
  front = front_there h.held h.stream.frame (left remaining h.stream) n.hand;
}
