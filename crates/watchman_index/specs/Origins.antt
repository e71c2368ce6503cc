-- What the messages of an index are of.
use Rattle.std.specs.Prelude.{◌≡◌, ℕ, List, Option, Some, None, ⊤}
use Rattle.std.specs.Option.{option_or}
use Rattle.watchman_index.specs.declared.origin.Origin.{Origin}

-- a message that names this can be of the one that is known
abbrev pub Agrees : Option (List ℕ) → Option (List ℕ) → Type 0
Agrees (Some known) (Some told) = known ≡ told
Agrees (Some _) None = ⊤
Agrees None _ = ⊤

-- what is known stays, and else what the message names is known
abbrev pub Learns : Origin → Option (List ℕ) → Option (List ℕ) → Origin → Type 0
Learns old root subscription new = (new.root ≡ option_or old.root root)
    × (new.subscription ≡ option_or old.subscription subscription)
