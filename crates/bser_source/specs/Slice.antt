-- A source over a slice.
use Rattle.std.specs.Prelude.{◌≡◌, ℕ, [], List, length, drop, Some, None, true, false}
use Rattle.std.proofs.lemmas.List.{drop_all}
use Rattle.std.proofs.Common.{arith}
use Rattle.bser_source.specs.Window.{Window}
use Rattle.bser_source.specs.declared.slice_read.SliceRead.{SliceRead}

-- a source over a slice of which the first `index` bytes were taken
abbrev pub slice_window : List ℕ → ℕ → Window
slice_window slice index = record {
  buffered = drop index slice;
  beyond = Some [];
  count = index;
  limit = 0;
  lends = true;
  failed = false;
  failures = 0;
  through = None;
}

-- its window
abbrev pub slice_at : SliceRead → Window
slice_at r = record (slice_window r.slice.now r.index) { failed = r.failed }

-- its window before the first call
abbrev pub slice_fresh : List ℕ → Window
slice_fresh slice = slice_window slice 0

-- past its end a slice has nothing left
pub none_left : (xs : List ℕ) (i : ℕ) → i ≡ length xs → drop i xs ≡ []
none_left xs i e = drop_all i xs (omega (arith, e))
