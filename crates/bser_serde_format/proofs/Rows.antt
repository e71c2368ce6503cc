-- Rows of fields are read as one row after the other.
use Rattle.std.proofs.Common.{◌≡◌, ℕ, zero, suc, ◌+◌, ◌*◌, List, [], ◌∷◌, refl, ap, subst, ◌∙◌, arith}
use Rattle.bser_format.specs.Named.{Reader, Answer, reads, refuses, give, and_then, ◌>>=◌, many}
use Rattle.bser_events.specs.Takes.{Takes}
use Rattle.bser_events.proofs.Binds.{none_more, one_more}

pub record First {X : Type 0} (r : Reader X) (m : ℕ) (b z : List ℕ) : Type 0 where
  pub rest : List ℕ
  pub one : Takes r b rest
  pub others : Takes (many r m) rest z

pub first_of : {X : Type 0} (r : Reader X) (m : ℕ) (b z : List ℕ) → Takes (many r (suc m)) b z → First r m b z
first_of {X} r m b z t = by_first (r b) refl t.1
  where
    others : (x : X) (c : List ℕ) → r b ≡ reads x c → (o : Answer (List X)) → many r m c ≡ o → and_then (λ xs. give (x ∷ xs)) o ≡ reads t.0 z → First r m b z
    others x c h (refuses e) p q = absurd cc
    others x c h (reads xs d) p q = (let same : d ≡ z = cc in record { rest = c; one = (x, h); others = (xs, p ∙ ap (reads xs) same) })

    by_first : (o : Answer X) → r b ≡ o → and_then (λ x. many r m >>= λ xs. give (x ∷ xs)) o ≡ reads t.0 z → First r m b z
    by_first (refuses e) h q = absurd cc
    by_first (reads x c) h q = others x c h (many r m c) refl q

pub record Parted {X : Type 0} (r : Reader X) (w m : ℕ) (b z : List ℕ) : Type 0 where
  pub rest : List ℕ
  pub front : Takes (many r w) b rest
  pub others : Takes (many r m) rest z

pub parted : {X : Type 0} (r : Reader X) (w m : ℕ) (b z : List ℕ) → Takes (many r (w + m)) b z → Parted r w m b z
parted r zero m b z t = record { rest = b; front = none_more r 0 b refl; others = subst (λ k. Takes (many r k) b z) (omega arith) t }
parted r (suc w) m b z t =
    let more : suc w + m ≡ suc (w + m) = omega arith in
    let f = first_of r (w + m) b z (subst (λ k. Takes (many r k) b z) more t) in
    let p = parted r w m f.rest z f.others in
    record { rest = p.rest; front = one_more r w b f.rest p.rest f.one p.front; others = p.others }

-- so many rows of w fields are so many times as many fields
pub rows_taken : {X : Type 0} (r : Reader X) (w m : ℕ) (b z : List ℕ) → Takes (many r (m * w)) b z → Takes (many (many r w) m) b z
rows_taken {X} r w zero b z t =
    let none : 0 * w ≡ 0 = omega arith in
    let one : Takes (many r 0) b z = subst (λ k. Takes (many r k) b z) none t in
    ([], nothing one.0 one.1)
  where
    nothing : (xs : List X) → Path (Answer (List X)) (reads [] b) (reads xs z) → Path (Answer (List (List X))) (reads [] b) (reads [] z)
    nothing xs q = (let same : b ≡ z = cc in ap (reads []) same)
rows_taken r w (suc m) b z t =
    let more : suc m * w ≡ w + m * w = omega arith in
    let p = parted r w (m * w) b z (subst (λ k. Takes (many r k) b z) more t) in
    one_more (many r w) m b p.rest z p.front (rows_taken r w m p.rest z p.others)
