-- Without a dollar sign a key is its name.
use Rattle.std.proofs.Common.{◌≡◌, ℕ, List, [], ◌∷◌, Bool, true, false, ◌==◌, refl, ap, eqb-true}
use lib.Utf8
use Rattle.bser_from_json.specs.Made.{begins_with_dollar}
use Rattle.bser_from_json.proofs.meaning.name_of.Goals as goal

no_dollar : (k : List ℕ) → ((rest : List ℕ) → k ≡ 36 ∷ rest → ⊥) → begins_with_dollar k ≡ false
no_dollar [] h = refl
no_dollar (x ∷ k) h = by (x == 36) refl
  where
    by : (b : Bool) → (x == 36) ≡ b → (x == 36) ≡ false
    by true e = absurd (h k (ap (λ y. y ∷ k) (eqb-true x 36 e)))
    by false e = e

pub returns-in_default : goal.returns-in_default
unfolding lib.Utf8.encode
returns-in_default c = rw (no_dollar c.args.key.now c.in_default.ensures.cases) refl
