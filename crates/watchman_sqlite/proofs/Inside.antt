-- What a statement leaves inside a transaction.
use Rattle.std.proofs.Common.{◌≡◌, ℕ, Option, Some, None, sym, ap, subst, IsTrue}
use Rattle.sqlite.specs.Held.{Held, state}
use Rattle.sqlite.specs.Store.{Ghosts}
use Rattle.watchman_sqlite.specs.Subjects.{KeepsSubject}
use Rattle.watchman_sqlite.specs.declared.subject.Subject.{Subject}

-- keeping a subject does not end the transaction, and commits nothing
pub subject_inside : {S : Type 0} (g : Ghosts S) (subject : Option Subject) (old new : Held S) → IsTrue (state g old).in_transaction → KeepsSubject g subject old new
    → IsTrue (state g new).in_transaction × ((state g new).committed ≡ (state g old).committed)
subject_inside g None old new inside same = (subst (λ h. IsTrue (state g h).in_transaction) (sym same) inside, ap (λ h. (state g h).committed) same)
subject_inside g (Some s) old new inside (count, (ran, shows, marks)) = (shows.mode, shows.committed_is)
