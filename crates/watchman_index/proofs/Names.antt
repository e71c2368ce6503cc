-- Names are equal where their bytes are the same.
use Rattle.std.proofs.Common.{◌≡◌, ℕ, List}
use Rattle.std.specs.Bool.{Decides}
use Rattle.std.specs.Ordering.{nat_cmp}
use Rattle.std.specs.BTreeMap.{is_at}
use Rattle.std.specs.Cmp.Lexicographic.{slice_cmp, bytes_decides}
use Rattle.std.proofs.lemmas.Map.Text.{is_eq-slice_cmp}
use Rattle.std.proofs.lemmas.Bool.Decides.{Decides-at}

-- a search for a name finds a key exactly where they are the same
pub same_name : (q k : List ℕ) → Decides (is_at (slice_cmp nat_cmp q) k) (q ≡ k)
same_name q k = Decides-at _ _ (is_eq-slice_cmp q k) (bytes_decides q k)
