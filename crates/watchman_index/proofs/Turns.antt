-- Messages that an index takes in turn.
use Rattle.std.proofs.Common.{◌≡◌, ◌+◌, ◌<◌, ◌≤◌, ℕ, Bool, true, false, List, refl, sym, ap, subst, ◌∙◌, arith, inl, inr}
use Rattle.std.specs.Prelude.{◌⊎◌, Option, Some, None, cond}
use Rattle.std.specs.BTreeMap.{is_at, Updates}
use Rattle.std.specs.Cmp.Lexicographic.{slice_cmp}
use Rattle.std.specs.Ordering.{nat_cmp}
use Rattle.watchman_index.proofs.Names.{same_name}
use Rattle.watchman_index.proofs.Puts.{false_from}
use Rattle.watchman_index.specs.Listings.{listing_of}
use Rattle.watchman_index.specs.Rows.{changed_by, gone}
use Rattle.watchman_index.specs.Standings.{IsLater, IsStanding}
use Rattle.watchman_index.specs.Tables.{of_name, row_after}
use Rattle.watchman_index.specs.Turns.{State, row_of, number_of, Takes, TakesFiles, TakesClock, IsNewClock, SetsClock, IsChange, ChangesFile, IsAlike}
use Rattle.watchman_index.specs.declared.changes.Changes.{Changes}
use Rattle.watchman_index.specs.declared.index.Index.{Index}
use Rattle.watchman_index.specs.declared.listing.Listing.{Listing}
use Rattle.watchman_index.specs.declared.listing.Listing.TheVariants.{Changed, All}
use Rattle.watchman_index.specs.declared.row.FileState.{FileState}
use Rattle.watchman_index.specs.declared.row.Row.{Row}
use Rattle.watchman_index.specs.declared.standing.Standing.{Standing}
use Rattle.watchman_index.specs.declared.standing.Standing.TheVariants.{Joins, Gap}
use Rattle.watchman_index.specs.declared.standing.Standing.TheVariants as standings
use Rattle.watchman_index.specs.declared.told.Told.{Told}
use Rattle.watchman_index.specs.declared.told.Told.TheVariants.{Files, Clock, Subscribed}

-- nothing is something
pub none_some : {X : Type 0} {x : X} → None ≡ Some x → ⊥
none_some e = grind (arith, e)

-- ---- one row

-- the row was last changed by message n
abbrev pub IsChangedBy : ℕ → Option Row → Type 0
IsChangedBy n now = (r : Row) × (now ≡ Some r) × (r.changed ≡ n)

-- the row was last changed by the same message
abbrev pub IsAsChanged : Option Row → Option Row → Type 0
IsAsChanged None now = now ≡ None
IsAsChanged (Some r) now = IsChangedBy r.changed now

pub as_changed : (was : Option Row) → IsAsChanged was was
as_changed None = refl
as_changed (Some r) = (r, refl, refl)

pub as_changed_then : (a b c : Option Row) → IsAsChanged a b → IsAsChanged b c → IsAsChanged a c
as_changed_then None b c e f = subst (λ o. IsAsChanged o c) e f
as_changed_then (Some r) b c (s, is, by) f =
    let g = subst (λ o. IsAsChanged o c) is f in
    (g.0, g.1, g.2 ∙ by)

-- a row that a message changes is changed by it
changes_row : (n : ℕ) (l : Listing) (listed : Option FileState) (was : Option Row)
    → IsChange l listed was → IsChangedBy n (row_after n l listed was)
changes_row n l (Some s) was change = (changed_by n s, refl, refl)
changes_row n Changed None was change = absurd change
changes_row n All None None change = absurd change
changes_row n All None (Some r) exists = (gone n r, refl, rw exists refl)

-- a message changes a row, or it was last changed by the same message as before
row_either : (n : ℕ) (l : Listing) (listed : Option FileState) (was : Option Row)
    → IsChange l listed was ⊎ IsAsChanged was (row_after n l listed was)
row_either n Changed (Some s) was = inl tt
row_either n All (Some s) was = inl tt
row_either n Changed None was = inr (as_changed was)
row_either n All None None = inr refl
row_either n All None (Some r) = go r.state.exists refl
  where
    go : (b : Bool) → r.state.exists ≡ b
        → (r.state.exists ≡ true) ⊎ IsAsChanged (Some r) (Some (gone n r))
    go true exists = inl exists
    go false differs = inr (gone n r, refl, rw differs refl)

-- ---- one message

-- a message stands in one way to what was told
one_standing : (last : Option (List ℕ)) (c : Changes) (s t : Standing)
    → IsStanding last c s → IsStanding last c t → s ≡ t
one_standing last c standings.Told standings.Told p q = refl
one_standing last c Joins Joins p q = refl
one_standing last c Gap Gap p q = refl
one_standing last c standings.Told other p q = absurd (q.0 p)
one_standing last c other standings.Told p q = absurd (p.0 q)
one_standing last c Joins Gap p q = absurd (grind (arith, p.1, q.1, q.2))
one_standing last c Gap Joins p q = absurd (grind (arith, q.1, p.1, p.2))

-- the files of a message are taken as it stands
as_stands : (a b : State) (c : Changes) (t : Standing) → Takes a (Files c) b
    → IsStanding a.index.last_clock c t → TakesFiles t c a b
as_stands a b c t (s, standing, taken) stands =
    subst (λ s. TakesFiles s c a b) (one_standing a.index.last_clock c s t standing stands) taken

-- a clock changes no file, and is not the last one
clock_alone : (n : ℕ) (clock : List ℕ) (a b : Index) → TakesClock n clock a b
    → (b.files ≡ a.files) × (b.last_clock ≡ a.last_clock)
clock_alone n clock a b (inl (new, kept)) = (kept.files, kept.last)
clock_alone n clock a b (inr (old, same)) = (ap (λ i. i.files) same, ap (λ i. i.last_clock) same)

-- the number of messages never falls
pub turn_number : (a b : State) (t : Told) → Takes a t b → a.number ≤ b.number
turn_number a b (Files c) (Joins, joins, (number, applied)) = omega (arith, number)
turn_number a b (Files c) (other, stands, same) = omega (arith, ap (λ s. s.number) same)
turn_number a b (Clock c) (number, taken) = omega (arith, number)
turn_number a b (Subscribed c) (number, taken) = omega (arith, number)
turn_number a b other same = omega (arith, ap (λ s. s.number) same)

-- what a message that joins makes of the row
abbrev row_made : List ℕ → ℕ → Changes → State → Option Row
row_made name n c a = row_after n (listing_of c.is_fresh_instance) (of_name c.files name) (row_of name a)

-- a message changes a row, or it was last changed by the same message as before
pub turn_either : (name : List ℕ) (a b : State) (t : Told) → Takes a t b
    → ChangesFile name a t ⊎ IsAsChanged (row_of name a) (row_of name b)
turn_either name a b (Files c) (Joins, joins, (number, applied)) =
    go (row_either b.number (listing_of c.is_fresh_instance) (of_name c.files name) (row_of name a))
  where
    go : IsChange (listing_of c.is_fresh_instance) (of_name c.files name) (row_of name a)
        ⊎ IsAsChanged (row_of name a) (row_made name b.number c a)
        → ChangesFile name a (Files c) ⊎ IsAsChanged (row_of name a) (row_of name b)
    go (inl change) = inl (joins, change)
    go (inr stays) = inr (rw (applied.files name) stays)
turn_either name a b (Files c) (other, stands, same) = inr (rw same (as_changed (row_of name a)))
turn_either name a b (Clock c) (number, taken) =
    inr (rw (clock_alone a.number c a.index b.index taken).0 (as_changed (row_of name a)))
turn_either name a b (Subscribed c) (number, taken) =
    inr (rw (clock_alone a.number c a.index b.index taken).0 (as_changed (row_of name a)))
turn_either name a b other same = inr (rw same (as_changed (row_of name a)))

-- a message that changes a file has the next number
pub turn_counts : (name : List ℕ) (a b : State) (t : Told) → Takes a t b → ChangesFile name a t
    → (a.number < b.number) × IsChangedBy b.number (row_of name b)
turn_counts name a b (Files c) taken (joins, change) =
    let (number, applied) = as_stands a b c Joins taken joins in
    let made = changes_row b.number (listing_of c.is_fresh_instance) (of_name c.files name)
    (row_of name a) change in
    (omega (arith, number), rw (applied.files name) made)
turn_counts name a b other taken change = absurd change

-- ---- clocks

module _ (n : ℕ) (c clock : List ℕ) (a b : Index) where
  clock_set : TakesClock n c a b → (c ≡ clock) × IsNewClock a clock → of_name b.clocks clock ≡ Some n
  clock_set (inl (new, kept)) (is, _) = subst (λ k. of_name b.clocks k ≡ Some n) is kept.clocks.1
  clock_set (inr (old, same)) (is, new) = absurd (old (subst (IsNewClock a) (sym is) new))

  -- where another clock is kept, this one stays
  updates_other : Updates (slice_cmp nat_cmp) a.clocks b.clocks c (Some n) → (c ≡ clock → ⊥)
      → of_name b.clocks clock ≡ of_name a.clocks clock
  updates_other updates differs = updates.2 clock (false_from (same_name c clock) differs)

  clock_other : TakesClock n c a b → ((c ≡ clock) × IsNewClock a clock → ⊥)
      → of_name b.clocks clock ≡ of_name a.clocks clock
  clock_other (inl (new, kept)) unset =
      updates_other kept.clocks (λ is. unset (is, subst (IsNewClock a) is new))
  clock_other (inr (old, same)) unset = ap (λ i. of_name i.clocks clock) same

-- behind a message that sets it, a clock stands for the number
pub turn_sets : (a b : State) (t : Told) (clock : List ℕ) → Takes a t b → SetsClock clock a t
    → number_of clock b ≡ Some b.number
turn_sets a b (Files c) clock taken (is, joins) =
    let (number, applied) = as_stands a b c Joins taken joins in
    subst (λ k. number_of k b ≡ Some b.number) is applied.clocks.1
turn_sets a b (Clock c) clock (number, taken) sets =
    clock_set a.number c clock a.index b.index taken sets ∙ ap Some (sym number)
turn_sets a b (Subscribed c) clock (number, taken) sets =
    clock_set a.number c clock a.index b.index taken sets ∙ ap Some (sym number)
turn_sets a b other clock taken sets = absurd sets

-- behind any other, it stays
pub turn_other : (a b : State) (t : Told) (clock : List ℕ) → Takes a t b → ¬ SetsClock clock a t
    → number_of clock b ≡ number_of clock a
turn_other a b (Files c) clock (Joins, joins, (number, applied)) unset =
    updates_other b.number c.clock clock a.index b.index applied.clocks (λ is. unset (is, joins))
turn_other a b (Files c) clock (other, stands, same) unset = ap (number_of clock) same
turn_other a b (Clock c) clock (number, taken) unset =
    clock_other a.number c clock a.index b.index taken unset
turn_other a b (Subscribed c) clock (number, taken) unset =
    clock_other a.number c clock a.index b.index taken unset
turn_other a b other clock same unset = ap (number_of clock) same

-- ---- alike

-- what a table has of a name after an update of another
abbrev after : List ℕ → List ℕ → ℕ → Option ℕ → Option ℕ
after key clock n was = cond (is_at (slice_cmp nat_cmp key) clock) (Some n) was

files_alike : (a b c d : State) (x : Changes) (s : Standing) → IsAlike a c → TakesFiles s x a b
    → TakesFiles s x c d → IsAlike b d
files_alike a b c d x Joins alike (number, p) (count, q) =
    let n : b.number ≡ d.number = number ∙ ap (λ n. n + 1) alike.number ∙ sym count in
    let all = listing_of x.is_fresh_instance in
    record {
      number = n;
      files = λ name. p.files name
          ∙ (λ i. row_after (n i) all (of_name x.files name) (alike.files name i)) ∙ sym (q.files name);
      clocks = λ clock. p.clocks.0 clock
          ∙ (λ i. after x.clock clock (n i) (alike.clocks clock i)) ∙ sym (q.clocks.0 clock);
      last = p.last ∙ sym q.last;
    }
files_alike a b c d x other alike p q = rw (p, q) alike

module _ (a b c d : State) (x : List ℕ) (alike : IsAlike a c) where
  new_alike : IsNewClock a.index x → IsNewClock c.index x
  new_alike (later, unknown) =
      (subst (λ l. IsLater l x) alike.last later, sym (alike.clocks x) ∙ unknown)

  new_back : IsNewClock c.index x → IsNewClock a.index x
  new_back (later, unknown) =
      (subst (λ l. IsLater l x) (sym alike.last) later, alike.clocks x ∙ unknown)

  clocks_alike : (clock : List ℕ) → TakesClock a.number x a.index b.index
      → TakesClock c.number x c.index d.index → number_of clock b ≡ number_of clock d
  clocks_alike clock (inl (new, p)) (inl (also, q)) = p.clocks.0 clock
      ∙ (λ i. after x clock (alike.number i) (alike.clocks clock i)) ∙ sym (q.clocks.0 clock)
  clocks_alike clock (inl (new, p)) (inr (old, q)) = absurd (old (new_alike new))
  clocks_alike clock (inr (old, p)) (inl (new, q)) = absurd (old (new_back new))
  clocks_alike clock (inr (old, p)) (inr (also, q)) = rw (p, q) (alike.clocks clock)

  clock_alike : (b.number ≡ a.number) × TakesClock a.number x a.index b.index
      → (d.number ≡ c.number) × TakesClock c.number x c.index d.index → IsAlike b d
  clock_alike (number, p) (count, q) =
      let (files, last) = clock_alone a.number x a.index b.index p in
      let (filed, later) = clock_alone c.number x c.index d.index q in
      record {
        number = number ∙ alike.number ∙ sym count;
        files = λ name. rw (files, filed) (alike.files name);
        clocks = λ clock. clocks_alike clock p q;
        last = last ∙ alike.last ∙ sym later;
      }

pub turn_alike : (a b c d : State) (t : Told) → IsAlike a c → Takes a t b → Takes c t d → IsAlike b d
turn_alike a b c d (Files x) alike (s, p, taken) took =
    files_alike a b c d x s alike taken
    (as_stands c d x s took (subst (λ l. IsStanding l x s) alike.last p))
turn_alike a b c d (Clock x) alike p q = clock_alike a b c d x alike p q
turn_alike a b c d (Subscribed x) alike p q = clock_alike a b c d x alike p q
turn_alike a b c d other alike p q = rw (p, q) alike
