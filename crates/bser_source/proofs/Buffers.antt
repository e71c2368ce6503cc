-- A reader's block.
use Rattle.std.proofs.Common.{◌≡◌, ℕ, ◌+◌, ◌-◌, ◌≤◌, max, Bool, List, ◌++◌, Option, length, take, drop, slice_range, refl, ap, ◌∙◌, arith}
use Rattle.std.proofs.lemmas.List.{length-take, length-take-le}
use Rattle.std.proofs.Math.Seq.{take-add}
use Rattle.std.specs.Borrow.{GName}
use Rattle.std.specs.Io.KnownBytes.{Consumes}
use Rattle.bser_source.specs.Window.{Grown, consumed}
use Rattle.bser_source.specs.Reader.{io_of}
use Rattle.bser_source.proofs.Windows.{range_dropped}

-- n bytes that are buffered lie before the end
pub inside : (xs : List ℕ) (start end n : ℕ) → start ≤ end → n ≤ length (slice_range xs start end) → start + n ≤ end
inside xs start end n ordered le = omega (arith, ordered, le, length-take (end - start) (drop start xs))

-- the first n bytes were taken
pub moved : (r : Option (List ℕ)) (failures : ℕ) (through : Option GName) (block : List ℕ) (start end arrived limit n : ℕ) (failed : Bool) → start + n ≤ end → end - start ≤ arrived
    → io_of r failures through block (start + n) end arrived limit failed ≡ consumed n (io_of r failures through block start end arrived limit failed)
moved r failures through block start end arrived limit n failed le counted =
    let buffered = range_dropped block start end n le in
    let count : arrived - (end - (start + n)) ≡ arrived - (end - start) + n = omega arith in
    rw (buffered, count) refl

minus-zero : (n : ℕ) → n - 0 ≡ n
minus-zero n = omega arith

-- a read added to what is buffered
pub pulled : (r r' : Option (List ℕ)) (failures failures' : ℕ) (through through' : Option GName) (block block' : List ℕ) (start end arrived limit n got : ℕ) (failed : Bool)
    → start ≡ 0 → end + got ≤ length block' → take end block' ≡ take end block → end - start ≤ arrived → Consumes r r' (take got (drop end block'))
    → end + got ≤ max (limit - (arrived - end)) n → failures' ≡ failures → through' ≡ through
    → Grown n (io_of r failures through block start end arrived limit failed) (io_of r' failures' through' block' start (end + got) (arrived + got) limit failed)
pulled r r' failures failures' through through' block block' start end arrived limit n got failed front le kept counted bytes within same by =
    let buffered : slice_range block' start (end + got) ≡ slice_range block start end ++ take got (drop end block') =
    rw front (simp minus-zero (take-add end got block' ∙ ap (λ l. l ++ take got (drop end block')) kept)) in
    let len : length (slice_range block' start (end + got)) ≡ end + got = rw (front, minus-zero) (length-take-le (end + got) block' le) in
    record {
      more = take got (drop end block');
      buffered = buffered;
      device = bytes;
      within = λ a most h. omega (arith, len, front, within, most);
      count = omega (arith, front, counted);
      limit = refl;
      lends = refl;
      failed = refl;
      failures = same;
      through = by;
    }
