-- How much is left to be done: a number that falls with each step, whatever the counts of the containers inside may be.
use Rattle.std.proofs.Common.{◌≡◌, ℕ, zero, suc, ◌+◌, ◌*◌, ◌<◌, ◌≤◌, ◌^◌, List, [], ◌∷◌, ◌++◌, length, refl, sym, ap, subst, ◌∙◌, arith, inl, inr}
use Rattle.std.proofs.Math.Nat.{mul-le-mul_left, mul-le-mul_right}
use Rattle.std.proofs.lemmas.List.{reverse-append}
use Rattle.std.specs.Prelude.{reverse, Option, Some}
use Rattle.bser_events.specs.Found.{IsInside}
use Rattle.bser_events.specs.Frames.{Takes, IsSmall}
use Rattle.bser_events.specs.declared.frame.Frame.{Frame}
use Rattle.bser_events.specs.declared.frame.Remaining.{Remaining}
use Rattle.bser_events.specs.declared.frame.Remaining.TheVariants.{Items, Entries, Rows}
use Rattle.bser_events.specs.declared.frame.Part.{Part}
use Rattle.bser_events.specs.declared.frame.Part.TheVariants.{Item, Entry, Field}
use Rattle.bser_events.proofs.Leads.{frame_of}

-- how many parts are left
abbrev pub parts_left : Remaining → ℕ
parts_left (Items k) = k
parts_left (Entries k) = k
parts_left (Rows f r w) = f + r * w

-- more than all that a value with n levels left can take
pub cost : ℕ → ℕ
cost zero = 1
cost (suc n) = 2 ^ 130 * cost n

-- what is left of the open containers
pub work : List Frame → ℕ
work [] = 0
work (f ∷ fs) = 1 + parts_left f.parts * cost f.levels + work fs

cost_some : (n : ℕ) → 1 ≤ cost n
unfolding cost
cost_some zero = omega arith
cost_some (suc n) = let h = cost_some n in omega (arith, h)

pub one_less : (due : Part) (p q : Remaining) → Takes due p q → parts_left p ≡ suc (parts_left q)
one_less Item p q (k, old, new) = rw (old, new) refl
one_less Entry p q (k, old, new) = rw (old, new) refl
one_less Field p q (f, r, w, new, inl old) = rw (old, new) (grind arith)
one_less Field p q (f, r, w, new, inr (wide, old)) = rw (old, new, wide) (grind arith)

-- a part was taken
pub part_taken : (n m : ℕ) (p q : Remaining) (fs : List Frame) → m ≡ n → parts_left q < parts_left p → work (frame_of m q ∷ fs) < work (frame_of n p ∷ fs)
unfolding work
part_taken n m p q fs same less =
    rw same
    (let some = cost_some n in
    let more : suc (parts_left q) * cost n ≤ parts_left p * cost n = grind (arith, mul-le-mul_right) in
    omega (arith, some, more))

-- a container was closed
pub closed_falls : (f g : Frame) (fs : List Frame) → work (g ∷ fs) < work (f ∷ g ∷ fs)
unfolding work
closed_falls f g fs = omega arith

few_parts : (p : Remaining) → IsSmall p → parts_left p ≤ 2 ^ 129
few_parts (Items k) h = omega (arith, h)
few_parts (Entries k) h = omega (arith, h)
few_parts (Rows f r w) h =
    let m : r * w ≤ 2 ^ 64 * 2 ^ 64 = grind (arith, mul-le-mul_left) in
    omega (arith, m, h.0)

-- a container was opened
pub opened_falls : (n m : ℕ) (p q i : Remaining) (fs : List Frame) → parts_left q < parts_left p → n ≡ suc m → IsSmall i
    → work (frame_of m i ∷ frame_of n q ∷ fs) < work (frame_of n p ∷ fs)
unfolding work cost
opened_falls n m p q i fs less deeper small =
    rw deeper
    (let some = cost_some m in
    let most : parts_left i * cost m ≤ 2 ^ 129 * cost m = grind (arith, mul-le-mul_left, few_parts i small) in
    let more : suc (parts_left q) * (2 ^ 130 * cost m) ≤ parts_left p * (2 ^ 130 * cost m) = grind (arith, mul-le-mul_right) in
    omega (arith, some, most, more))

-- each container has fewer levels inside than the one around it, and small counts
abbrev pub Deep : ℕ → List Frame → Type 0
Deep levels [] = Unit {0}
Deep levels (f ∷ fs) = (length fs + f.levels ≤ levels) × IsSmall f.parts × Deep levels fs

-- ---- a list of frames, the last being the innermost but one

pub pushed : (all fs : List Frame) (f : Frame) → all ≡ fs ++ f ∷ [] → reverse all ≡ f ∷ reverse fs
pushed all fs f e = ap reverse e ∙ reverse-append fs (f ∷ [])

-- the container around the innermost
pub deep_popped : (levels : ℕ) (f g : Frame) (fs all : List Frame) → all ≡ g ∷ fs → Deep levels (f ∷ all) → Deep levels (g ∷ fs)
deep_popped levels f g fs all around deep = subst (Deep levels) around deep.2

pub popped_falls : (f g : Frame) (fs all : List Frame) → all ≡ g ∷ fs → work (g ∷ fs) < work (f ∷ all)
popped_falls f g fs all around = subst (λ l. work (g ∷ fs) < work (f ∷ l)) (sym around) (closed_falls f g fs)

-- parts were taken
pub deep_taken : (levels n m : ℕ) (p q : Remaining) (fs : List Frame) → m ≡ n → (IsSmall p → IsSmall q) → Deep levels (frame_of n p ∷ fs) → Deep levels (frame_of m q ∷ fs)
deep_taken levels n m p q fs same small deep = (omega (arith, same, deep.0), small deep.1, deep.2)

-- a container was opened
pub deep_pushed : (levels n : ℕ) (q : Remaining) (o : Option Frame) (f : Frame) (fs all : List Frame) → all ≡ frame_of n q ∷ fs → o ≡ Some f → IsInside n o
    → Deep levels (frame_of n q ∷ fs) → Deep levels (f ∷ all)
deep_pushed levels n q o f fs all around is inside deep =
    let i = subst (IsInside n) is inside in
    subst (λ l. Deep levels (f ∷ l)) (sym around) (omega (arith, i.0, deep.0), i.1, deep)

pub pushed_falls : (n m : ℕ) (p q : Remaining) (o : Option Frame) (f : Frame) (fs all : List Frame) → all ≡ frame_of m q ∷ fs → o ≡ Some f → IsInside m o
    → m ≡ n → parts_left q < parts_left p → work (f ∷ all) < work (frame_of n p ∷ fs)
pushed_falls n m p q o f fs all around is inside same less =
    let i = subst (IsInside m) is inside in
    subst (λ l. work (f ∷ l) < work (frame_of n p ∷ fs)) (sym around)
    (subst (λ k. work (f ∷ frame_of m q ∷ fs) < work (frame_of k p ∷ fs)) same (opened_falls m f.levels p q f.parts fs less i.0 i.1))
