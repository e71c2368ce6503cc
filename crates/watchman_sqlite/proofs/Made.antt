-- What one transaction leaves.
use Rattle.std.proofs.Common.{◌≡◌, inl, inr, true, false, Option, sym, refl, ◌∙◌, arith, IsTrue}
use Rattle.sqlite.specs.Held.{Held, state}
use Rattle.sqlite.specs.State.{State, HasCleanDisk, Survives}
use Rattle.sqlite.specs.Steps.{FailsToCommit}
use Rattle.sqlite.specs.Store.{Ghosts}
use Rattle.sqlite.specs.declared.error.Error.{Error}
use Rattle.sqlite.proofs.Callers.{survives_begin}
use Rattle.sqlite.proofs.StateLemmas.{survives_then}
use Rattle.sqlite.specs.Effect.{Database}
use Rattle.watchman_sqlite.specs.Entries.{PutEntry, StoredEntry}
use Rattle.watchman_sqlite.specs.Layouts.{IsAsBefore, MadeTables, PutTables}
use Rattle.watchman_sqlite.specs.declared.entry.Entry.{Entry}
use Rattle.watchman_sqlite.specs.declared.storing.Statements.{Statements}
use Rattle.watchman_sqlite.specs.declared.subject.Subject.{Subject}

module _ {S : Type 0} (g : Ghosts S) (old last : Held S) (new : State) where
  -- a commit that failed leaves what there was
  uncommitted : (e : Error) → IsTrue (state g old).is_open → IsTrue (state g last).in_transaction → (state g last).committed ≡ (state g old).committed
      → (IsTrue (state g old).is_open → (state g old).now ≡ (state g old).committed) → FailsToCommit (state g last) new e → IsTrue new.is_open → IsAsBefore (state g old) new
  uncommitted e was_open inside committed settled (inl failed) is_open =
      let back = failed.3.undone is_open in
      (back.0 ∙ committed ∙ sym (settled was_open), back.1 ∙ committed)
  uncommitted e was_open inside committed settled (inr (code, outside, same)) is_open = absurd (let no : true ≡ false = sym inside ∙ outside in cc)

  -- a crash leaves what was done, or what it left before
  done_survives : (Done : Database → Type 0) → Survives (state g (record old { in_transaction = true })) (state g last) (λ _. ⊥) → (HasCleanDisk (state g last) → Done (state g last).now)
      → Survives (state g last) new (λ trees. trees ≡ (state g last).now.trees) → Survives (state g old) new (λ trees. (db : Database) × Done db × (trees ≡ db.trees))
  done_survives Done first done second =
      survives_then (state g old) (state g last) new _ _ _ (λ clean db never. absurd never)
      (λ clean db is. ((state g last).now, done (omega (arith, clean, second.clean)), is)) (survives_begin g old (state g last) _ first) second

module _ {S : Type 0} (g : Ghosts S) (subject : Option Subject) (old last : Held S) (new : State) where
  -- tables that were not committed are not there
  pub as_before : (e : Error) → PutTables g subject (record old { in_transaction = true }) last → (IsTrue (state g old).is_open → (state g old).now ≡ (state g old).committed)
      → FailsToCommit (state g last) new e → IsTrue new.is_open → IsAsBefore (state g old) new
  as_before e put = uncommitted g old last new e put.was_open put.inside put.committed

  -- a crash leaves the tables that were made, or what it left before
  pub made_survives : Survives (state g (record old { in_transaction = true })) (state g last) (λ _. ⊥)
      → (HasCleanDisk (state g last) → PutTables g subject (record old { in_transaction = true }) last) → Survives (state g last) new (λ trees. trees ≡ (state g last).now.trees)
      → Survives (state g old) new (λ trees. (db : Database) × MadeTables g subject old db × (trees ≡ db.trees))
  made_survives first put second = done_survives g old last new (MadeTables g subject old) first (λ clean. record { last = last; put = put clean; is = refl }) second

module _ {S : Type 0} (g : Ghosts S) (by : Statements) (entry : Entry) (old last : Held S) (new : State) where
  -- a message that was not committed is not there
  pub entry_as_before : (e : Error) → PutEntry g by entry (record old { in_transaction = true }) last → (IsTrue (state g old).is_open → (state g old).now ≡ (state g old).committed)
      → FailsToCommit (state g last) new e → IsTrue new.is_open → IsAsBefore (state g old) new
  entry_as_before e put = uncommitted g old last new e put.was_open put.inside put.committed

  -- a crash leaves the message that was stored, or what it left before
  pub entry_survives : Survives (state g (record old { in_transaction = true })) (state g last) (λ _. ⊥)
      → (HasCleanDisk (state g last) → PutEntry g by entry (record old { in_transaction = true }) last) → Survives (state g last) new (λ trees. trees ≡ (state g last).now.trees)
      → Survives (state g old) new (λ trees. (db : Database) × StoredEntry g by entry old db × (trees ≡ db.trees))
  entry_survives first put second = done_survives g old last new (StoredEntry g by entry old) first (λ clean. record { last = last; put = put clean; is = refl }) second
