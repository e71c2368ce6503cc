-- The plain reader reads exactly what the front of the bytes spells.
use Rattle.std.proofs.Common.{◌≡◌, ◌↔◌, ℕ, List, ◌++◌, Some, refl, sym, ap, ◌∙◌}
use Rattle.std.proofs.lemmas.Option.{some_pair_parts}
use Rattle.bser_format.specs.Tree.{Tree}
use Rattle.bser_format.specs.Grammar.{Spells}
use Rattle.bser_format.specs.declared.errors.Error.{Error}
use Rattle.bser_format.specs.Named.{Answer, reads, refuses, any}
use Rattle.bser_format.specs.Plain as plain
use Rattle.bser_format.specs.Plain.{forget}
use Rattle.bser_format.proofs.Fronts.{value_reads}
use Rattle.bser_format.proofs.Sound.{IsBytes, value_sound}

pub reads_spelled : (n : ℕ) (b y : List ℕ) (t : Tree) → IsBytes b → (any n b ≡ reads t y) ↔ ((a : List ℕ) × (b ≡ a ++ y) × Spells n t a)
reads_spelled n b y t all = (λ e. let h = value_sound n b y t all e in (h.part, h.whole, h.form), λ h. ap (any n) h.1 ∙ value_reads n t h.0 y h.2)

pub refused : {X : Type 0} (o : Answer X) → ((x : X) (y : List ℕ) → o ≡ reads x y → ⊥) → (e : Error) × (o ≡ refuses e)
refused (reads x y) none = absurd (none x y refl)
refused (refuses e) none = (e, refl)

pub no_answer : {X : Type 0} (e : Error) (x : X) (y : List ℕ) → reads x y ≡ refuses e → ⊥
no_answer e x y h = cc

pub refuses_rest : (n : ℕ) (b : List ℕ) → IsBytes b → ((e : Error) × (any n b ≡ refuses e)) ↔ ((a y : List ℕ) (t : Tree) → b ≡ a ++ y → Spells n t a → ⊥)
refuses_rest n b all = (
  λ h a y t whole spelled. no_answer h.0 t y (sym ((reads_spelled n b y t all).1 (a, whole, spelled)) ∙ h.1),
  λ none. refused (any n b) (λ t y e. let h = (reads_spelled n b y t all).0 e in none h.0 y t h.1 h.2),
)

-- ---- without names

pub forgotten : {X : Type 0} (o : Answer X) (x : X) (y : List ℕ) → forget o ≡ Some (x, y) → o ≡ reads x y
forgotten (reads z w) x y e = let same = some_pair_parts z x w y e in ap (λ v. reads v w) same.0 ∙ ap (reads x) same.1
forgotten (refuses z) x y e = cc

pub value_exact : (n : ℕ) (b y : List ℕ) (t : Tree) → IsBytes b → (plain.value n b ≡ Some (t, y)) ↔ ((a : List ℕ) × (b ≡ a ++ y) × Spells n t a)
value_exact n b y t all = let exact = reads_spelled n b y t all in (λ e. exact.0 (forgotten (any n b) t y e), λ h. ap forget (exact.1 h))
