-- The records of files that are gone.
use Rattle.std.proofs.Common.{◌≡◌, ℕ, List, [], ◌∙◌}
use Rattle.std.specs.BTreeMap.{BTreeMap}
use Rattle.sqlite.specs.Held.{Held}
use Rattle.sqlite.specs.Order.{Row}
use Rattle.sqlite.specs.Store.{Ghosts}
use Rattle.watchman_index.specs.declared.row.FileState.{FileState}
use Rattle.watchman_sqlite.specs.Entries.{AddsGone}
use Rattle.watchman_sqlite.specs.Records.{VisitedAnswer}
use Rattle.watchman_sqlite.specs.declared.entry.Gone.{Gone}
use Rattle.watchman_sqlite.specs.declared.record.Record.{Record}
use Rattle.watchman_sqlite.proofs.Visits.{visited_as}

-- how one record is visited
abbrev pub Visits : Gone → Record → Gone → Type 0
Visits a r b = (b.number ≡ a.number) × (b.listed.now ≡ a.listed.now) × AddsGone a.number a.listed.now a.rows.items r b.rows.items

-- it is about this message
abbrev pub IsOf : ℕ → BTreeMap (List ℕ) FileState → Gone → Type 0
IsOf n listed a = (a.number ≡ n) × (a.listed.now ≡ listed)

one : (n : ℕ) (listed : BTreeMap (List ℕ) FileState) (a : Gone) (r : Record) (b : Gone) → IsOf n listed a → Visits a r b → AddsGone n listed a.rows.items r b.rows.items × IsOf n listed b
one n listed a r b is visit = (rw (is.0, is.1) at visit.2, (visit.0 ∙ is.0, visit.1 ∙ is.1))

pub gone_visited : {S : Type 0} (g : Ghosts S) (n : ℕ) (listed : BTreeMap (List ℕ) FileState) (question : List ℕ) (params : Row) (old new : Held S) (before after : Gone) → IsOf n listed before
    → before.rows.items ≡ [] → VisitedAnswer g Visits question params old new before after → VisitedAnswer g (AddsGone n listed) question params old new [] after.rows.items
gone_visited g n listed question params old new before after is none visited =
    rw none at (visited_as g Visits (AddsGone n listed) (λ a. a.rows.items) (IsOf n listed) (one n listed) question params old new before after is visited).0
