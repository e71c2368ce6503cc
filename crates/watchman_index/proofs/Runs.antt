-- All messages that an index takes, from none on.
use Rattle.std.proofs.Common.{◌≡◌, ◌<◌, ◌≤◌, ℕ, true, List, [], ◌∷◌, refl, sym, ap, subst, ◌∙◌, arith, inl, inr}
use Rattle.std.specs.Prelude.{◌⊎◌, Option, Some, None, IsSomeAnd, nat_lt}
use Rattle.std.specs.BTreeMap.{BTreeMap, IsEmpty, is_at}
use Rattle.std.specs.Cmp.Lexicographic.{slice_cmp}
use Rattle.std.specs.Map.{lookup}
use Rattle.std.specs.Ordering.{nat_cmp}
use Rattle.std.proofs.lemmas.Bool.Decides.{Decides-ltb}
use Rattle.watchman_index.proofs.Turns.{IsChangedBy, IsAsChanged, as_changed, as_changed_then, none_some, turn_either, turn_number, turn_counts, turn_sets, turn_other, turn_alike}
use Rattle.watchman_index.specs.Tables.{of_name}
use Rattle.watchman_index.specs.Tells.{Types}
use Rattle.watchman_index.specs.Turns.{State, row_of, number_of, IsNew, Takes, ChangesFile, Message, Turns, NoneSets, OneChanges, IsAlike, ToldTheSame, UntoldIsUnknown, ToldInTurn}
use Rattle.watchman_index.specs.declared.row.Row.{Row}
use Rattle.watchman_index.specs.declared.told.Told.{Told}

-- nothing is in an empty table
empty_none : {X : Type 0} (table : BTreeMap (List ℕ) X) (name : List ℕ) → IsEmpty table
    → of_name table name ≡ None
empty_none table name e = ap (λ es. lookup (is_at (slice_cmp nat_cmp name)) es) e

-- each row was changed by one of the messages that were counted
abbrev AreCounted : State → Type 0
AreCounted a = (name : List ℕ) (r : Row) → row_of name a ≡ Some r → r.changed ≤ a.number

abbrev changed_of : Option Row → ℕ
changed_of None = 0
changed_of (Some r) = r.changed

-- a row that is as it was is behind no message that was not counted
stays_counted : (name : List ℕ) (a : State) (now : Option Row) (r : Row) → AreCounted a
    → IsAsChanged (row_of name a) now → now ≡ Some r → r.changed ≤ a.number
stays_counted name a now r counted = go (row_of name a) refl
  where
    go : (was : Option Row) → row_of name a ≡ was → IsAsChanged was now → now ≡ Some r → r.changed ≤ a.number
    go None e none is = absurd (none_some (sym none ∙ is))
    go (Some q) e (s, found, by) is =
        let same : r.changed ≡ s.changed = ap changed_of (sym is ∙ found) in
        omega (arith, same, by, counted name q e)

turn_counted : (a b : State) (t : Told) → AreCounted a → Takes a t b → AreCounted b
turn_counted a b t counted taken name r is = go (turn_either name a b t taken)
  where
    go : ChangesFile name a t ⊎ IsAsChanged (row_of name a) (row_of name b) → r.changed ≤ b.number
    go (inl change) =
        let (q, found, by) = (turn_counts name a b t taken change).1 in
        let same : r.changed ≡ q.changed = ap changed_of (sym is ∙ found) in
        omega (arith, same, by)
    go (inr stays) =
        omega (arith, stays_counted name a (row_of name b) r counted stays is, turn_number a b t taken)

-- the row was changed by a message behind number n
abbrev IsLater : ℕ → Option Row → Type 0
IsLater n now = (r : Row) × (now ≡ Some r) × (n < r.changed)

later_stays : (n k : ℕ) (was now : Option Row) → n < k → IsChangedBy k was → IsAsChanged was now
    → IsLater n now
later_stays n k was now below (r, is, by) stays =
    let s = subst (λ o. IsAsChanged o now) is stays in
    (s.0, s.1, omega (arith, below, by, s.2))

module _ (types : Types) where
  -- ---- rows

  turns_counted : (ms : List Message) (a b : State) → AreCounted a → Turns types a ms b → AreCounted b
  turns_counted [] a b counted e = subst AreCounted e counted
  turns_counted (m ∷ ms) a b counted (j, (tells, takes), run) =
      turns_counted ms j b (turn_counted a j m.told counted takes) run

  -- one of the messages changes a row, or it was last changed by the same message as before
  turns_either : (name : List ℕ) (ms : List Message) (a b : State) → Turns types a ms b
      → OneChanges types name a ms b ⊎ IsAsChanged (row_of name a) (row_of name b)
  turns_either name [] a b e = inr (rw e (as_changed (row_of name b)))
  turns_either name (m ∷ ms) a b (j, turn, run) =
      go (turn_either name a j m.told turn.1) (turns_either name ms j b run)
    where
      go : ChangesFile name a m.told ⊎ IsAsChanged (row_of name a) (row_of name j)
          → OneChanges types name j ms b ⊎ IsAsChanged (row_of name j) (row_of name b)
          → OneChanges types name a (m ∷ ms) b ⊎ IsAsChanged (row_of name a) (row_of name b)
      go first (inl one) = inl (j, turn, run, inr one)
      go (inl change) (inr stays) = inl (j, turn, run, inl change)
      go (inr stays) (inr stay) =
          inr (as_changed_then (row_of name a) (row_of name j) (row_of name b) stays stay)

  -- what one of the messages changed was changed behind those before
  one_later : (name : List ℕ) (ms : List Message) (a b : State) → OneChanges types name a ms b
      → IsLater a.number (row_of name b)
  one_later name [] a b one = absurd one
  one_later name (m ∷ ms) a b (j, turn, run, inr one) =
      let (r, is, above) = one_later name ms j b one in
      (r, is, omega (arith, above, turn_number a j m.told turn.1))
  one_later name (m ∷ ms) a b (j, turn, run, inl change) =
      go (one_later name ms j b) (turns_either name ms j b run)
    where
      counts : (a.number < j.number) × IsChangedBy j.number (row_of name j)
      counts = turn_counts name a j m.told turn.1 change

      go : (OneChanges types name j ms b → IsLater j.number (row_of name b))
          → OneChanges types name j ms b ⊎ IsAsChanged (row_of name j) (row_of name b)
          → IsLater a.number (row_of name b)
      go later (inl one) =
          let (r, is, above) = later one in
          (r, is, omega (arith, counts.0, above))
      go later (inr stays) =
          later_stays a.number j.number (row_of name j) (row_of name b) counts.0 counts.1 stays

  -- ---- clocks

  turns_other : (ms : List Message) (clock : List ℕ) (a b : State) → Turns types a ms b
      → NoneSets types clock a ms b → number_of clock b ≡ number_of clock a
  turns_other [] clock a b e none = ap (number_of clock) (sym e)
  turns_other (m ∷ ms) clock a b run (j, (tells, takes), more, unset, none) =
      turns_other ms clock j b more none ∙ turn_other a j m.told clock takes unset

  -- ---- the laws

  new_alike : (a c : State) → IsNew a → IsNew c → IsAlike a c
  new_alike a c p q = record {
    number = p.number ∙ sym q.number;
    files = λ name. empty_none a.index.files name p.files ∙ sym (empty_none c.index.files name q.files);
    clocks = λ clock. empty_none a.index.clocks clock p.clocks ∙ sym (empty_none c.index.clocks clock q.clocks);
    last = p.last ∙ sym q.last;
  }

  turns_alike : (ms : List Message) (a b c d : State) → IsAlike a c → Turns types a ms b
      → Turns types c ms d → IsAlike b d
  turns_alike [] a b c d alike p q = rw (sym p, sym q) alike
  turns_alike (m ∷ ms) a b c d alike (i, (tells, takes), run) (j, (also, took), more) =
      turns_alike ms i b j d (turn_alike a i c j m.told alike takes took) run more

  pub told_the_same : ToldTheSame types
  told_the_same ms a b c d new also p q = turns_alike ms a b c d (new_alike a c new also) p q

  pub untold_is_unknown : UntoldIsUnknown types
  untold_is_unknown ms clock a b new run none =
      turns_other ms clock a b run none ∙ empty_none a.index.clocks clock new.clocks

  new_counted : (a : State) → IsNew a → AreCounted a
  new_counted a new name r is =
      absurd (none_some (sym (empty_none a.index.files name new.files) ∙ is))

  -- a row that changed later than all before was changed by one of the messages
  from_later : (name : List ℕ) (behind : List Message) (j b : State) (now : Option Row)
      → row_of name b ≡ now → AreCounted j → IsSomeAnd now (λ r. nat_lt j.number r.changed ≡ true)
      → OneChanges types name j behind b ⊎ IsAsChanged (row_of name j) (row_of name b)
      → OneChanges types name j behind b
  from_later name behind j b None is counted later either = absurd later
  from_later name behind j b (Some row) is counted later (inl one) = one
  from_later name behind j b (Some row) is counted later (inr stays) =
      let above : j.number < row.changed = (Decides-ltb j.number row.changed).0 later in
      absurd (omega (arith, above, stays_counted name j (row_of name b) row counted stays is))

  -- a row that one of the messages changed did so
  to_later : (n : ℕ) (now : Option Row) → IsLater n now → IsSomeAnd now (λ r. nat_lt n r.changed ≡ true)
  to_later n now (r, is, above) = rw is ((Decides-ltb n r.changed).1 above)

  pub told_in_turn : ToldInTurn types
  told_in_turn before behind m clock a i j b new first (tells, takes) last sets none =
      let known = turns_other behind clock j b last none ∙ turn_sets i j m.told clock takes sets in
      let counted = turn_counted i j m.told (turns_counted before a i (new_counted a new) first) takes in
      record {
        known = known;
        changed = λ name. rw known (
          λ later. from_later name behind j b (row_of name b) refl counted later
              (turns_either name behind j b last),
          λ one. to_later j.number (row_of name b) (one_later name behind j b one),
        );
      }
