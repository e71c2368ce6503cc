-- What a writer took in two calls is what it took in both.
use Rattle.std.proofs.Common.{◌≡◌, ℕ, List, [], ◌++◌, length, Option, Some, None, arith, append_assoc, length-append, sym}
use Rattle.std.proofs.lemmas.List.{append-nil}
use Rattle.std.specs.Io.KnownBytes.{Appends}
use Rattle.bser_source.specs.Device.{counts_to}

pub counts_to-none : (n : ℕ) → n ≡ counts_to n 0
counts_to-none n = omega arith

pub counts_to-both : (a b c : ℕ) (xs ys : List ℕ) → b ≡ counts_to a (length xs) → c ≡ counts_to b (length ys) → c ≡ counts_to a (length (xs ++ ys))
counts_to-both a b c xs ys p q = omega (arith, length-append xs ys)

pub Appends-none : (old : Option (List ℕ)) → Appends old old []
Appends-none None = tt
Appends-none (Some xs) = sym (append-nil xs)

pub Appends-both : (a b c : Option (List ℕ)) (xs ys : List ℕ) → Appends a b xs → Appends b c ys → Appends a c (xs ++ ys)
Appends-both None b c xs ys p q = tt
Appends-both (Some a) None c xs ys p q = absurd p
Appends-both (Some a) (Some b) None xs ys p q = absurd q
Appends-both (Some a) (Some b) (Some c) xs ys p q = rw (q, p) (append_assoc a xs ys)

pub append-none : (old : List ℕ) → old ≡ old ++ []
append-none old = sym (append-nil old)

pub append-both : (a b c xs ys : List ℕ) → b ≡ a ++ xs → c ≡ b ++ ys → c ≡ a ++ (xs ++ ys)
append-both a b c xs ys p q = rw (q, p) (append_assoc a xs ys)
