-- The messages that came, in their order.
use Rattle.std.specs.Prelude.{ℕ, Bool, if◌then◌else◌, List, [], ◌∷◌, map}
use Rattle.std.specs.List.{concat}
use Rattle.watchman_client.specs.Kinds.{IsKind, IsWhole}

-- a message that came: its bytes, and whether it is unsolicited
pub record Arrival : Type 0 where
  pub bytes : List ℕ
  pub unsolicited : Bool

-- the bytes are one whole message, given as what it is
abbrev pub IsTold : Arrival → Type 0
IsTold a = IsWhole a.bytes × IsKind a.unsolicited a.bytes

-- the bytes of all messages
abbrev pub bytes_of : List Arrival → List ℕ
bytes_of arrivals = concat (map (λ a. a.bytes) arrivals)

-- the messages that are not unsolicited
abbrev pub answers_of : List Arrival → List (List ℕ)
answers_of [] = []
answers_of (a ∷ rest) = if a.unsolicited then answers_of rest else a.bytes ∷ answers_of rest

-- the messages that are
abbrev pub unsolicited_of : List Arrival → List (List ℕ)
unsolicited_of [] = []
unsolicited_of (a ∷ rest) = if a.unsolicited then a.bytes ∷ unsolicited_of rest else unsolicited_of rest
