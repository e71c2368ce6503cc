-- A source over a reader.
use Rattle.std.specs.Prelude.{◌≡◌, ℕ, ◌-◌, List, [], Option, Bool, false, slice_range, take, drop}
use Rattle.std.proofs.Common.{ap, arith}
use Rattle.std.specs.Borrow.{GName}
use Rattle.bser_source.specs.Window.{Window}
use Rattle.bser_source.specs.declared.io_read.IoRead.{IoRead}

-- a source over a reader that gave `arrived` bytes, of which those from `start` to `end` of the block are buffered
abbrev pub io_of : Option (List ℕ) → ℕ → Option GName → List ℕ → ℕ → ℕ → ℕ → ℕ → Bool → Window
io_of remaining failures through block start end arrived limit failed = record {
  buffered = slice_range block start end;
  beyond = remaining;
  count = arrived - (end - start);
  limit = limit;
  lends = false;
  failed = failed;
  failures = failures;
  through = through;
}

-- its window, by what its reader shows of itself
abbrev pub io_at : {S : Type 0} → (S → Option (List ℕ)) → (S → ℕ) → (S → Option GName) → IoRead S → Window
io_at remaining failures through r =
    io_of (remaining r.reader) (failures r.reader) (through r.reader) r.block r.start r.end r.arrived r.limit r.failed

-- its window before the first call
abbrev pub io_fresh : {S : Type 0} → (S → Option (List ℕ)) → (S → ℕ) → (S → Option GName) → S → Window
io_fresh remaining failures through reader = record {
  buffered = [];
  beyond = remaining reader;
  count = 0;
  limit = 0;
  lends = false;
  failed = false;
  failures = failures reader;
  through = through reader;
}

-- the reader itself
abbrev pub io_reader : {S : Type 0} → IoRead S → S
io_reader r = r.reader

-- an empty range holds nothing
pub nothing_held : (xs : List ℕ) (start end : ℕ) → start ≡ end → slice_range xs start end ≡ []
nothing_held xs start end e = ap (λ n. take n (drop start xs)) (let none : end - start ≡ 0 = omega (arith, e) in none)
