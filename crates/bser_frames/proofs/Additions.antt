-- What a reader added to what there was.
use Rattle.std.proofs.Common.{◌≡◌, ℕ, ◌+◌, List, [], ◌++◌, Option, Some, None, take, drop, refl, sym, ap, ◌∙◌, append-nil, append_assoc}
use Rattle.std.proofs.KnownBytes.{Consumes-trans}
use Rattle.std.proofs.Math.Seq.{take-add}
use Rattle.std.specs.Io.KnownBytes.{Consumes, Keeps}
use Rattle.bser_source.specs.Pull.{Reads}

-- n bytes were put behind the first `filled` ones
pub reads_some : (a b : Option (List ℕ)) (old buf : List ℕ) (filled n : ℕ) → take filled buf ≡ old
    → Consumes a b (take n (drop filled buf)) → Reads a b old (take (filled + n) buf)
reads_some a b old buf filled n kept got = record {
  more = take n (drop filled buf);
  items = take-add filled n buf ∙ ap (λ l. l ++ take n (drop filled buf)) kept;
  device = got;
}

keeps_none : (a b : Option (List ℕ)) → Keeps a b → Consumes a b []
keeps_none None b k = tt
keeps_none (Some x) None k = k
keeps_none (Some x) (Some y) k = sym k

-- nothing came
pub reads_none : (a b : Option (List ℕ)) (old new : List ℕ) → new ≡ old → Keeps a b → Reads a b old new
reads_none a b old new e k = record { more = []; items = e ∙ sym (append-nil old); device = keeps_none a b k }

-- nothing came, since the reader was not called
pub reads_nothing : (a : Option (List ℕ)) (old new : List ℕ) → new ≡ old → Reads a a old new
reads_nothing a old new e = reads_none a a old new e (keeps_itself a)
  where
    keeps_itself : (a : Option (List ℕ)) → Keeps a a
    keeps_itself None = tt
    keeps_itself (Some x) = refl

-- one after the other
pub reads_then : (a b c : Option (List ℕ)) (x y z : List ℕ) → Reads a b x y → Reads b c y z → Reads a c x z
reads_then a b c x y z r s = record {
  more = r.more ++ s.more;
  items = s.items ∙ ap (λ l. l ++ s.more) r.items ∙ append_assoc x r.more s.more;
  device = Consumes-trans a b c r.more s.more r.device s.device;
}
