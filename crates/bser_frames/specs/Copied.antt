-- A byte source over a slice that lends nothing.
use Rattle.std.specs.Prelude.{ℕ, List, false}
use Rattle.bser_source.specs.Slice.{slice_fresh}
use Rattle.bser_source.specs.Window.{Window}

-- the same window, of a source that copies what is read
abbrev pub copied : Window → Window
copied s = record s { lends = false }

-- its window before the first call
abbrev pub copied_fresh : List ℕ → Window
copied_fresh bytes = copied (slice_fresh bytes)
