-- One reader after the other.
use Rattle.std.proofs.Common.{◌≡◌, ℕ, suc, List, [], ◌∷◌, refl, sym, ap, subst, ◌∙◌}
use Rattle.std.specs.Prelude.{Option, Some, None, IfSome}
use Rattle.bser_format.specs.Named.{Reader, reads, give, and_then, ◌>>=◌, many}
use Rattle.bser_events.specs.Takes.{Takes}

pub each_some : {X : Type 0} (P Q : X → Type 0) (o : Option X) → IfSome o P → ((x : X) → P x → Q x) → IfSome o Q
each_some P Q (Some x) p f = f x p
each_some P Q None p f = tt

pub bound : {X Y : Type 0} (r : Reader X) (k : X → Reader Y) (b c z : List ℕ) (x : X) → r b ≡ reads x c → Takes (k x) c z → Takes (r >>= k) b z
bound r k b c z x h t = (t.0, ap (and_then k) h ∙ t.1)

-- what was read is made something of
pub mapped : {X Y : Type 0} (r : Reader X) (f : X → Y) (b z : List ℕ) → Takes r b z → Takes (r >>= λ x. give (f x)) b z
mapped r f b z t = bound r (λ x. give (f x)) b z z t.0 t.1 (f t.0, refl)

-- ---- so many

pub none_more : {X : Type 0} (r : Reader X) (m : ℕ) (b : List ℕ) → m ≡ 0 → Takes (many r m) b b
none_more r m b none = subst (λ k. Takes (many r k) b b) (sym none) ([], refl)

pub one_more : {X : Type 0} (r : Reader X) (m : ℕ) (b c z : List ℕ) → Takes r b c → Takes (many r m) c z → Takes (many r (suc m)) b z
one_more r m b c z h t =
    bound r (λ x. many r m >>= λ xs. give (x ∷ xs)) b c z h.0 h.1 (mapped (many r m) (λ xs. h.0 ∷ xs) c z t)

-- as many as are left of them, which may be read on
abbrev pub ReadsOn : {X : Type 0} → Reader X → ℕ → List ℕ → ℕ → List ℕ → Type 0
ReadsOn r n b m c = (z : List ℕ) → Takes (many r m) c z → Takes (many r n) b z

pub on_step : {X : Type 0} (r : Reader X) (n m k : ℕ) (b c d : List ℕ) → m ≡ suc k → ReadsOn r n b m c → Takes r c d → ReadsOn r n b k d
on_step r n m k b c d is on h z t = on z (subst (λ j. Takes (many r j) c z) (sym is) (one_more r k c d z h t))

pub on_end : {X : Type 0} (r : Reader X) (n m : ℕ) (b c : List ℕ) → m ≡ 0 → ReadsOn r n b m c → Takes (many r n) b c
on_end r n m b c none on = on c (none_more r m c none)
