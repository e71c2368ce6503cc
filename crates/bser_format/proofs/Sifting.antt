-- Readers of which one reads what the other reads, where that meets a condition.
use Rattle.std.proofs.Common.{◌≡◌, ℕ, zero, suc, Bool, true, false, cond, List, [], ◌∷◌, length, refl, sym, ap, subst, ◌∙◌}
use Rattle.std.proofs.lemmas.Option.{some_pair_parts}
use Rattle.std.specs.List.{AllByRecursion}
use Rattle.bser_format.specs.declared.errors.Error.{Error}
use Rattle.bser_format.specs.Named.{Answer, reads, refuses, Reader, give, refuse, and_then, ◌>>=◌, many}
use Rattle.bser_format.specs.Plain.{forget}

-- what the first answers, the second answers exactly where P holds
pub record Sifted {X : Type 0} (P : X → Type 0) (o p : Answer X) : Type 0 where
  pub kept : (x : X) (y : List ℕ) → o ≡ reads x y → P x → p ≡ reads x y
  pub passed : (x : X) (y : List ℕ) → p ≡ reads x y → (o ≡ reads x y) × P x

-- the same of readers, whatever they are given
abbrev pub Sifts : {X : Type 0} → (X → Type 0) → Reader X → Reader X → Type 0
Sifts P r s = (b : List ℕ) → Sifted P (r b) (s b)

-- all that is read is so
abbrev pub Always : {X : Type 0} → (X → Type 0) → Reader X → Type 0
Always {X = X} K r = (b y : List ℕ) (x : X) → r b ≡ reads x y → K x

-- what holds of all
abbrev pub Anything : {X : Type 0} → X → Type 0
Anything x = Unit {0}

pub then_reads : {X Y P : Type 0} (k : X → Reader Y) (o : Answer X) (z : Y) (y : List ℕ) → and_then k o ≡ reads z y → ((x : X) (c : List ℕ) → o ≡ reads x c → k x c ≡ reads z y → P) → P
then_reads k (reads x c) z y e next = next x c refl e
then_reads k (refuses f) z y e next = cc

pub same_answer : {X : Type 0} (x z : X) (c y : List ℕ) → reads x c ≡ reads z y → (x ≡ z) × (c ≡ y)
same_answer x z c y e = some_pair_parts x z c y (ap forget e)

pub always : {X : Type 0} (r : Reader X) → Always Anything r
always r b y x e = tt

pub same_sifts : {X : Type 0} (P : X → Type 0) (r : Reader X) → Always P r → Sifts P r r
same_sifts P r all b = record { kept = λ x y e p. e; passed = λ x y e. (e, all b y x e) }

pub refuse_sifts : {X : Type 0} (P : X → Type 0) (e f : Error) → Sifts P (refuse e) (refuse f)
refuse_sifts P e f b = record { kept = λ x y h p. absurd cc; passed = λ x y h. absurd cc }

pub give_sifts : {X : Type 0} (P : X → Type 0) (z : X) → P z → Sifts P (give z) (give z)
give_sifts P z p = same_sifts P (give z) (λ b y x e. subst P (same_answer z x b y e).0 p)

-- what was given is what was read
pub given : {X : Type 0} (P : X → Type 0) (z w : X) (c y : List ℕ) → give z c ≡ reads w y → P w → P z
given P z w c y e p = subst P (sym (same_answer z w c y e).0) p

pub if_sifts : {X : Type 0} (P : X → Type 0) (c : Bool) (r r' s s' : Reader X) → Sifts P r s → Sifts P r' s' → Sifts P (cond c r r') (cond c s s')
if_sifts P true r r' s s' f g = f
if_sifts P false r r' s s' f g = g

pub bind_sifts : {X Y : Type 0} (K P : X → Type 0) (Q : Y → Type 0) (r s : Reader X) (k l : X → Reader Y) → Always K r → Sifts P r s
    → ((x : X) → K x → P x → Sifts Q (k x) (l x)) → ((x : X) (c y : List ℕ) (z : Y) → K x → k x c ≡ reads z y → Q z → P x) → Sifts Q (r >>= k) (s >>= l)
bind_sifts K P Q r s k l all first second back b = record {
  kept = λ z y e q. then_reads k (r b) z y e λ x c one more.
      ap (and_then l) ((first b).kept x c one (back x c y z (all b c x one) more q))
      ∙ (second x (all b c x one) (back x c y z (all b c x one) more q) c).kept z y more q;
  passed = λ z y e. then_reads l (s b) z y e λ x c one more.
      let h = (first b).passed x c one in
      let m = (second x (all b c x h.0) h.1 c).passed z y more in
      (ap (and_then k) h.0 ∙ m.0, m.1);
}

-- the last step reads no byte
pub map_sifts : {X Y : Type 0} (K P : X → Type 0) (Q : Y → Type 0) (r s : Reader X) (f : X → Y) → Always K r → Sifts P r s
    → ((x : X) → K x → P x → Q (f x)) → ((x : X) → K x → Q (f x) → P x) → Sifts Q (r >>= λ x. give (f x)) (s >>= λ x. give (f x))
map_sifts K P Q r s f all first to from = bind_sifts K P Q r s (λ x. give (f x)) (λ x. give (f x)) all first
    (λ x h p. give_sifts Q (f x) (to x h p)) (λ x c y z h e q. from x h (given Q (f x) z c y e q))

-- the first step is the same
pub after_sifts : {X Y : Type 0} (K : X → Type 0) (Q : Y → Type 0) (r : Reader X) (k l : X → Reader Y) → Always K r
    → ((x : X) → K x → Sifts Q (k x) (l x)) → Sifts Q (r >>= k) (r >>= l)
after_sifts K Q r k l all second = bind_sifts K Anything Q r r k l all (same_sifts Anything r (always r)) (λ x h p. second x h) (λ x c y z h e q. tt)

pub many_sifts : {X : Type 0} (P : X → Type 0) (r s : Reader X) → Sifts P r s → (n : ℕ) → Sifts (AllByRecursion P) (many r n) (many s n)
many_sifts P r s one zero = give_sifts (AllByRecursion P) [] tt
many_sifts P r s one (suc n) =
    bind_sifts Anything P (AllByRecursion P) r s (λ x. many r n >>= λ xs. give (x ∷ xs)) (λ x. many s n >>= λ xs. give (x ∷ xs)) (always r) one
    (λ x h p. map_sifts Anything (AllByRecursion P) (AllByRecursion P) (many r n) (many s n) (λ xs. x ∷ xs) (always (many r n)) (many_sifts P r s one n) (λ xs g ps. (p, ps)) (λ xs g ps. ps.1))
    (λ x c y z h e q. then_reads (λ xs. give (x ∷ xs)) (many r n c) z y e λ xs d one more. (given (AllByRecursion P) (x ∷ xs) z d y more q).0)

-- so many, each of which is so
abbrev pub Counted : {X : Type 0} → (X → Type 0) → ℕ → List X → Type 0
Counted K n xs = AllByRecursion K xs × (length xs ≡ n)

pub many_always : {X : Type 0} (K : X → Type 0) (r : Reader X) → Always K r → (n : ℕ) → Always (Counted K n) (many r n)
many_always K r one zero b y xs e = subst (Counted K zero) (same_answer [] xs b y e).0 (tt, refl)
many_always K r one (suc n) b y xs e =
    then_reads (λ x. many r n >>= λ ws. give (x ∷ ws)) (r b) xs y e λ x c first more.
    then_reads (λ ws. give (x ∷ ws)) (many r n c) xs y more λ ws d second last.
    let h = many_always K r one n c d ws second in
    subst (Counted K (suc n)) (same_answer (x ∷ ws) xs d y last).0 ((one b c x first, h.0), ap suc h.1)
