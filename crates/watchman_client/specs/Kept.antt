-- What callers see of messages that are kept.
use Rattle.std.specs.Prelude.{ℕ, ◌+◌, ◌≤◌, nat_le, nat_lt, ◌||◌, Bool, List, length}
use Rattle.std.specs.List.{concat}
use Rattle.watchman_client.specs.declared.bounds.Bounds.{Bounds}

-- how many bytes the messages have
abbrev pub size_of : List (List ℕ) → ℕ
size_of messages = length (concat messages)

-- no more may be kept, or not so many bytes more
abbrev pub is_full : Bounds → List (List ℕ) → List ℕ → Bool
is_full bounds kept message =
    nat_le bounds.kept_messages (length kept) || nat_lt bounds.kept_bytes (size_of kept + length message)

-- no more messages are kept than may be, and no more bytes
pub record IsWithin (bounds : Bounds) (kept : List (List ℕ)) : Type 0 where
  pub number : length kept ≤ bounds.kept_messages
  pub bytes : size_of kept ≤ bounds.kept_bytes
