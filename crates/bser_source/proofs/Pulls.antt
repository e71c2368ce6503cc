-- A scratch that is filled from a reader.
use Rattle.std.proofs.Common.{◌≡◌, ℕ, ◌+◌, List, ◌++◌, Option, take, drop, append_assoc, ap, ◌∙◌}
use Rattle.std.proofs.Math.Seq.{take-add}
use Rattle.std.proofs.KnownBytes.{Consumes-trans}
use Rattle.std.specs.Io.KnownBytes.{Consumes}
use Rattle.bser_source.specs.Pull.{Reads}

-- n bytes more were read to place `filled` on
pub reads_more : (a b c : Option (List ℕ)) (old xs ys : List ℕ) (filled n : ℕ) → take filled ys ≡ take filled xs
    → Reads a b old (take filled xs) → Consumes b c (take n (drop filled ys)) → Reads a c old (take (filled + n) ys)
reads_more a b c old xs ys filled n kept reads got = record {
  more = reads.more ++ take n (drop filled ys);
  items = take-add filled n ys ∙ ap (λ l. l ++ take n (drop filled ys)) (kept ∙ reads.items) ∙ append_assoc old reads.more (take n (drop filled ys));
  device = Consumes-trans a b c reads.more (take n (drop filled ys)) reads.device got;
}
