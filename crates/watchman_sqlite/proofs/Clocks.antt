-- Keeping a clock.
use Rattle.std.proofs.Common.{◌≡◌, ℕ, List, [], ◌∷◌, Option, Some, None, IsSomeAnd, MatchOption, refl, subst, sym}
use Rattle.std.specs.Prelude.{slice_get}
use Rattle.sqlite.specs.Held.{Held, state}
use Rattle.sqlite.specs.Order.{Row}
use Rattle.sqlite.specs.State.{Shown}
use Rattle.sqlite.specs.Store.{Ghosts}
use Rattle.sqlite.specs.declared.types.Value.TheVariants.{Blob}
use Rattle.watchman_sqlite.specs.Entries.{KeptClock, PutClock}
use Rattle.watchman_sqlite.specs.Questions.{IsNumberOf}
use Rattle.watchman_sqlite.specs.declared.storing.Statements.{Statements}
use Rattle.watchman_sqlite.specs.declared.schema.TheConstants.{NUMBER}

module _ {S : Type 0} (g : Ghosts S) (by : Statements) (clock : List ℕ) (n : ℕ) (old : Held S) where
  -- one that is known stays
  pub kept_known : (new : Held S) (rows : List Row) (k : ℕ) → Shown NUMBER.now (Blob clock ∷ []) (state g old) (state g new) rows → IsNumberOf rows (Some k) → KeptClock g by clock n old new
  kept_known new rows k shown is = (new, rows, shown, go _ (PutClock g by clock n new new) (slice_get rows 0) is)
    where
      go : (P : Row → Type 0) (Q : Type 0) (o : Option Row) → IsSomeAnd o P → MatchOption o Q (λ _. new ≡ new)
      go P Q None none = absurd none
      go P Q (Some row) some = refl

  -- and one that is not known is stored
  pub kept_new : (mid new : Held S) (rows : List Row) → Shown NUMBER.now (Blob clock ∷ []) (state g old) (state g mid) rows → slice_get rows 0 ≡ None → PutClock g by clock n mid new → KeptClock g by clock n old new
  kept_new mid new rows shown none put = (mid, rows, shown, subst (λ o. MatchOption o (PutClock g by clock n mid new) (λ _. new ≡ mid)) (sym none) put)
