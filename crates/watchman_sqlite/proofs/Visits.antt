-- The answer of a question that is read one row at a time.
use Rattle.std.proofs.Common.{◌≡◌, inl, ℕ, ◌+◌, ◌-◌, ◌^◌, ◌≤◌, List, [], ◌∷◌, ◌++◌, length, length-append, Some, None, Ok, ap, sym, subst, arith}
use Rattle.std.specs.List.{FoldsTo}
use Rattle.std.proofs.lemmas.Fn.{FoldsTo-push}
use Rattle.sqlite.specs.Clock.{timed}
use Rattle.sqlite.specs.Effect.{Database}
use Rattle.sqlite.specs.Given.{IsPlain, HasGiven, Advances}
use Rattle.sqlite.specs.Held.{Held, state}
use Rattle.sqlite.specs.Listing.{understood, reads_listing, IsSourceOf}
use Rattle.sqlite.specs.Order.{Row}
use Rattle.sqlite.specs.State.{State, IsUnchanged, Shown, ShowsRows}
use Rattle.sqlite.specs.Store.{Ghosts}
use Rattle.sqlite.proofs.Callers.{unchanged_then}
use Rattle.watchman_sqlite.specs.Records.{VisitsRow, VisitedAnswer}
use Rattle.watchman_sqlite.specs.declared.record.Record.{Record}

-- what a question shows is its answer of the same database before
shown_since : (sql : List ℕ) (params : Row) (old mid new : State) (rows : List Row) → IsPlain (understood old.now.schema sql) → IsUnchanged old mid
    → Shown sql params mid new rows → Shown sql params old new rows
unfolding Shown
shown_since sql params old mid new rows plain same h =
    let now = same.0.now_is in
    let is = subst (λ (d : Database). understood d.schema sql ≡ Ok h.0) now h.1.is in
    let none = (subst IsPlain is plain).0 in
    let it = subst (ShowsRows mid new sql h.0 (timed params h.0.formats h.1.now) rows) none h.2 in (
      h.0,
      record { is = is; whole = h.1.whole; given = h.1.given; now = h.1.now },
      subst (ShowsRows old new sql h.0 (timed params h.0.formats h.1.now) rows) (sym none) (
        it.0,
        subst (λ (d : Database). IsSourceOf (reads_listing d.schema sql) d it.0) now it.1,
        it.2,
        unchanged_then old mid new same it.3,
      ),
    )

-- the records of the first rows of an answer were visited, so many
pub record HasVisited {S V : Type 0} (g : Ghosts S) (visits : V → Record → V → Type 0) (question : List ℕ) (params : Row) (old now : Held S) (before after : V) (count : ℕ) : Type 0 where
  pub rows : List Row
  pub given : HasGiven g question params now rows
  pub same : IsUnchanged (state g old) (state g now)
  pub visited : FoldsTo (VisitsRow visits) before rows after
  pub counted : length rows ≡ count

module _ {S V : Type 0} (g : Ghosts S) (visits : V → Record → V → Type 0) (question : List ℕ) (params : Row) (old : Held S) (before : V) where
  pub visited_more : (mid now : Held S) (after last : V) (row : Row) (count : ℕ) → HasVisited g visits question params old mid before after count
      → Advances g mid now (Some row) → IsUnchanged (state g mid) (state g now) → VisitsRow visits after row last → HasVisited g visits question params old now before last (count + 1)
  visited_more mid now after last row count h moved same one = record {
    rows = h.rows ++ row ∷ [];
    given = moved question params h.rows h.given;
    same = unchanged_then (state g old) (state g mid) (state g now) h.same same;
    visited = FoldsTo-push (VisitsRow visits) before h.rows after row last h.visited one;
    counted = omega (arith, length-append h.rows (row ∷ []), h.counted);
  }

  pub visited_all : (mid now : Held S) (after : V) (count : ℕ) → IsPlain (understood old.schema question) → HasVisited g visits question params old mid before after count
      → Advances g mid now None → IsUnchanged (state g mid) (state g now) → VisitedAnswer g visits question params old now before after
  visited_all mid now after count plain h moved same = record {
    rows = h.rows;
    answer = inl (shown_since question params (state g old) (state g mid) (state g now) h.rows plain h.same (moved question params h.rows h.given));
    visited = h.visited;
    same = unchanged_then (state g old) (state g mid) (state g now) h.same same;
  }

-- records that were visited in one way were visited in another, where each of the visits was
pub visited_as : {S V W : Type 0} (g : Ghosts S) (visits : V → Record → V → Type 0) (others : W → Record → W → Type 0) (f : V → W) (Keeps : V → Type 0)
    → ((a : V) (r : Record) (b : V) → Keeps a → visits a r b → others (f a) r (f b) × Keeps b)
    → (question : List ℕ) (params : Row) (old new : Held S) (before after : V) → Keeps before → VisitedAnswer g visits question params old new before after
    → VisitedAnswer g others question params old new (f before) (f after) × Keeps after
visited_as {S} {V} g visits others f Keeps each question params old new before after keeps h =
    let it = go before h.rows after keeps h.visited in (record { rows = h.rows; answer = h.answer; visited = it.0; same = h.same }, it.1)
  where
    go : (a : V) (rows : List Row) (b : V) → Keeps a → FoldsTo (VisitsRow visits) a rows b → FoldsTo (VisitsRow others) (f a) rows (f b) × Keeps b
    go a [] b keeps same = (ap f same, subst Keeps same keeps)
    go a (row ∷ rows) b keeps (j, (r, is, visit), rest) =
        let one = each a r j keeps visit in
        let more = go j rows b one.1 rest in ((f j, (r, is, one.0), more.0), more.1)
