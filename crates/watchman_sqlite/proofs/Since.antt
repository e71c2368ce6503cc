-- The records of files that changed behind a message.
use Rattle.std.proofs.Common.{◌≡◌, ℕ, List, Option, ◌∙◌}
use Rattle.std.specs.Borrow.{GName}
use Rattle.sqlite.specs.Held.{Held}
use Rattle.sqlite.specs.Order.{Row}
use Rattle.sqlite.specs.Store.{Ghosts}
use Rattle.watchman_sqlite.specs.Records.{VisitedAnswer, VisitsSince}
use Rattle.watchman_sqlite.specs.declared.connection.Since.{Since}
use Rattle.watchman_sqlite.specs.declared.record.Record.{Record}
use Rattle.watchman_sqlite.proofs.Visits.{visited_as}

module _ {V : Type 0} (visits : V → Record → V → Type 0) where
  -- how one record is visited
  abbrev pub Visits : Since V → Record → Since V → Type 0
  Visits a r b = (b.number ≡ a.number) × (b.visitor.ghost_name ≡ a.visitor.ghost_name) × VisitsSince visits a.number a.visitor.now r b.visitor.now

  -- it is about this message, and holds this visitor
  abbrev pub IsOf : Option ℕ → GName → Since V → Type 0
  IsOf n name a = (a.number ≡ n) × (a.visitor.ghost_name ≡ name)

  one : (n : Option ℕ) (name : GName) (a : Since V) (r : Record) (b : Since V) → IsOf n name a → Visits a r b → VisitsSince visits n a.visitor.now r b.visitor.now × IsOf n name b
  one n name a r b is visit = (rw is.0 at visit.2, (visit.0 ∙ is.0, visit.1 ∙ is.1))

  pub since_visited : {S : Type 0} (g : Ghosts S) (n : Option ℕ) (name : GName) (question : List ℕ) (params : Row) (old new : Held S) (before after : Since V) → IsOf n name before
      → VisitedAnswer g Visits question params old new before after
      → VisitedAnswer g (VisitsSince visits n) question params old new before.visitor.now after.visitor.now × IsOf n name after
  since_visited g n name question params old new before after is visited =
      visited_as g Visits (VisitsSince visits n) (λ a. a.visitor.now) (IsOf n name) (one n name) question params old new before after is visited
