-- What a row says an index is of, and keeping that.
use Rattle.std.specs.Prelude.{◌≡◌, ℕ, [], ◌∷◌, Option, Some, None, IsSomeAnd, MatchOption, Ok, string_bytes, take}
use Rattle.sqlite.specs.Held.{Held, state}
use Rattle.sqlite.specs.Order.{Row}
use Rattle.sqlite.specs.State.{ExecutesInside}
use Rattle.sqlite.specs.Store.{Ghosts}
use Rattle.sqlite.specs.Values.{or_null}
use Rattle.sqlite.specs.declared.types.Value.TheVariants.{Text, Blob}
use Rattle.watchman_sqlite.specs.Fields.{field_words}
use Rattle.watchman_sqlite.specs.declared.error.IndexError.{IndexError}
use Rattle.watchman_sqlite.specs.declared.error.IndexError.TheVariants.{Database, NoIndex, OutOfMemory}
use Rattle.watchman_sqlite.specs.declared.subject.Subject.{Subject}
use Rattle.watchman_sqlite.specs.declared.subject.TheConstants.{KEEP}

-- a subject as a row: its root, its relative root, its expression, and the words of its fields
abbrev pub subject_row : Subject → Row
subject_row s = Blob s.root ∷ or_null Blob s.relative_root
    ∷ or_null (λ text. Text (string_bytes text)) s.expression ∷ Text (field_words s.fields.items) ∷ []

-- the row, where there is one, begins as that of the subject
abbrev pub IsSubjectOf : Option Row → Option Subject → Type 0
IsSubjectOf row subject = MatchOption subject (row ≡ None) (λ s. IsSomeAnd row (λ r. take 4 r ≡ subject_row s))

-- why a subject is not read: the database fails, its row is none of a subject, or there is no memory
abbrev pub IsUnreadSubject : IndexError → Type 0
IsUnreadSubject (Database _) = Unit {0}
IsUnreadSubject NoIndex = Unit {0}
IsUnreadSubject (OutOfMemory _) = Unit {0}
IsUnreadSubject _ = ⊥

-- inside a transaction the row of the subject was kept, where there is a subject
abbrev pub KeepsSubject : {S : Type 0} → Ghosts S → Option Subject → Held S → Held S → Type 0
KeepsSubject g None old new = new ≡ old
KeepsSubject g (Some s) old new = (count : ℕ) × ExecutesInside 0 KEEP.now (subject_row s) (state g old) (state g new) (Ok count)
