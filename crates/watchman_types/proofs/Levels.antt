-- How deep the operands nest.
use Rattle.std.proofs.Common.{arith, ◌≡◌, ℕ, zero, suc, ◌≤◌, List, [], ◌∷◌, drop, subst, sym}
use Rattle.watchman_types.specs.Expressions.{nesting, most_nesting}
use Rattle.watchman_types.specs.declared.requests.expression.Expression.{Expression}

-- where those from here on nest within the levels, all do
abbrev pub NestsBefore : ℕ → List Expression → List Expression → Type 0
NestsBefore levels all rest = most_nesting rest ≤ levels → most_nesting all ≤ levels

-- one nests within them, and so do those before it
pub nests_more : (levels : ℕ) (all rest left : List Expression) (e : Expression) → NestsBefore levels all rest → rest ≡ e ∷ left → nesting e ≤ levels → NestsBefore levels all left
nests_more levels all rest left e before step within h = before (subst (λ (es : List Expression). most_nesting es ≤ levels) (sym step) (omega (arith, within, h)))

-- one of them does not nest within the levels
pub one_too_deep : (levels : ℕ) (i : ℕ) (es left : List Expression) (e : Expression) → drop i es ≡ e ∷ left → most_nesting es ≤ levels → nesting e ≤ levels
one_too_deep levels zero es left e step h = let m : most_nesting (e ∷ left) ≤ levels = subst (λ (xs : List Expression). most_nesting xs ≤ levels) step h in omega (arith, m)
one_too_deep levels (suc i) [] left e step h = absurd cc
one_too_deep levels (suc i) (x ∷ es) left e step h = one_too_deep levels i es left e step (omega (arith, h))
