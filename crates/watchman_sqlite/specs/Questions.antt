-- What an index has of its messages, as its tables tell it.
use Rattle.std.specs.Prelude.{◌≡◌, ℕ, List, Option, None, IsSomeAnd, MatchOption, slice_get}
use Rattle.sqlite.specs.Order.{Row}
use Rattle.sqlite.specs.Values.{or_null}
use Rattle.sqlite.specs.declared.types.Value.TheVariants.{Blob}
use Rattle.watchman_sqlite.specs.Columns.{Holds, number}
use Rattle.watchman_sqlite.specs.declared.connection.Stored.{Stored}

-- the row says how many messages there are, what they are of, and the last clock
pub record IsStored (row : Row) (s : Stored) : Type 0 where
  pub messages : Holds row 0 (number s.messages)
  pub root : Holds row 1 (or_null Blob s.origin.root)
  pub subscription : Holds row 2 (or_null Blob s.origin.subscription)
  pub clock : Holds row 3 (or_null Blob s.clock)

-- the first row, where there is one, has this number
abbrev pub IsNumberOf : List Row → Option ℕ → Type 0
IsNumberOf rows n = MatchOption n (slice_get rows 0 ≡ None) (λ k. IsSomeAnd (slice_get rows 0) (λ row. Holds row 0 (number k)))
