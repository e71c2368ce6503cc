-- Rows that are stored one after the other inside a transaction.
use Rattle.std.proofs.Common.{◌≡◌, inl, ℕ, List, [], ◌∷◌, ◌++◌, refl, ◌∙◌, arith, IsTrue}
use Rattle.std.specs.List.{FoldsTo}
use Rattle.std.proofs.lemmas.Fn.{FoldsTo-push}
use Rattle.sqlite.specs.Held.{Held, state}
use Rattle.sqlite.specs.State.{State, HasCleanDisk, KeepsCommit, Survives}
use Rattle.sqlite.specs.Store.{Ghosts}
use Rattle.sqlite.proofs.StateLemmas.{survives_then}
use Rattle.sqlite.proofs.InsideLemmas.{keeps_then}
use Rattle.watchman_sqlite.specs.Entries.{PutEntry, PutsRow, Ran, clock_row, source_row}
use Rattle.watchman_sqlite.specs.declared.entry.Entry.{Entry}
use Rattle.watchman_sqlite.specs.declared.storing.Statements.{Statements}
use Rattle.watchman_sqlite.specs.declared.record.Record.{Record}

-- nothing was done
survives_same : (s : State) → Survives s s (λ _. ⊥)
survives_same s = record { clean = omega arith; shield = λ h. h; counts = omega arith; limit = refl; closes = λ clean is_open. inl is_open; crash = λ clean db may. inl may }

-- the first rows were stored inside a transaction, which goes on
pub record AreStored {S : Type 0} (g : Ghosts S) (text : List ℕ) (rows : List Record) (old now : Held S) : Type 0 where
  pub stored : FoldsTo (PutsRow g text) old rows now
  pub inside : IsTrue (state g now).in_transaction
  pub kept : KeepsCommit (state g old) (state g now)

-- so many of the rows were stored, if the disk is clean
pub record StoresRows {S : Type 0} (g : Ghosts S) (text : List ℕ) (rows : List Record) (old now : Held S) : Type 0 where
  pub survives : Survives (state g old) (state g now) (λ _. ⊥)
  pub stored : HasCleanDisk (state g now) → IsTrue (state g old).in_transaction → AreStored g text rows old now

module _ {S : Type 0} (g : Ghosts S) (text : List ℕ) (old : Held S) where
  pub stored_none : StoresRows g text [] old old
  stored_none = record {
    survives = survives_same (state g old);
    stored = λ clean inside. record { stored = refl; inside = inside; kept = record { was_open = λ h. h; committed = λ h. refl } };
  }

  pub survives_more : (now new : Held S) → Survives (state g old) (state g now) (λ _. ⊥) → Survives (state g now) (state g new) (λ _. ⊥) → Survives (state g old) (state g new) (λ _. ⊥)
  survives_more now new = survives_then (state g old) (state g now) (state g new) _ _ _ (λ clean db never. absurd never) (λ clean db never. absurd never)

  pub stored_more : (rows : List Record) (row : Record) (now new : Held S) → StoresRows g text rows old now → Survives (state g now) (state g new) (λ _. ⊥)
      → (HasCleanDisk (state g new) → IsTrue (state g now).in_transaction → PutsRow g text now row new)
      → (HasCleanDisk (state g new) → IsTrue (state g now).in_transaction → IsTrue (state g new).in_transaction)
      → (HasCleanDisk (state g new) → IsTrue (state g now).in_transaction → KeepsCommit (state g now) (state g new))
      → StoresRows g text (rows ++ row ∷ []) old new
  stored_more rows row now new h survives put inside kept = record {
    survives = survives_more now new h.survives survives;
    stored = λ clean was_inside.
        let was = h.stored (omega (arith, clean, survives.clean)) was_inside in
        record {
          stored = FoldsTo-push (PutsRow g text) old rows now row new was.stored (put clean was.inside);
          inside = inside clean was.inside;
          kept = keeps_then (state g old) (state g now) (state g new) was.kept (kept clean was.inside);
        };
  }

-- the parts of a message that were stored in turn
pub parts_put : {S : Type 0} (g : Ghosts S) (by : Statements) (e : Entry) (old first second new : Held S) → KeepsCommit (state g old) (state g first) → FoldsTo (PutsRow g by.put.text) old e.rows.items first
    → Ran g by.clock.text (clock_row e.clock e.number) first second → Ran g by.source.text (source_row e) second new → PutEntry g by e old new
parts_put g by e old first second new kept rows (m, (ran, shows, marks)) (n, (ran2, shows2, marks2)) = record {
  first = first;
  second = second;
  was_open = kept.was_open shows.was_open;
  rows = rows;
  clock = (m, (ran, shows, marks));
  source = (n, (ran2, shows2, marks2));
  inside = shows2.mode;
  committed = shows2.committed_is ∙ shows.committed_is ∙ kept.committed shows.was_open;
}
