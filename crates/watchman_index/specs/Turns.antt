-- Messages that are applied to an index one after another.
use Rattle.std.specs.Prelude.{◌≡◌, ◌⊎◌, ◌↔◌, ◌+◌, ℕ, true, List, [], ◌∷◌, Option, Some, None, IsSomeAnd}
use Rattle.std.specs.BTreeMap.{IsEmpty, Updates}
use Rattle.std.specs.Cmp.Lexicographic.{slice_cmp}
use Rattle.std.specs.List.{FoldsTo}
use Rattle.std.specs.Ordering.{nat_cmp}
use Rattle.watchman_index.specs.Listings.{listing_of}
use Rattle.watchman_index.specs.Origins.{Agrees, Learns}
use Rattle.watchman_index.specs.Standings.{IsStanding, IsLater}
use Rattle.watchman_index.specs.Tables.{of_name, is_since, Applies}
use Rattle.watchman_index.specs.Tells.{Types, Tells}
use Rattle.watchman_index.specs.declared.changes.Changes.{Changes}
use Rattle.watchman_index.specs.declared.index.Index.{Index}
use Rattle.watchman_index.specs.declared.listing.Listing.{Listing}
use Rattle.watchman_index.specs.declared.listing.Listing.TheVariants.{Changed, All}
use Rattle.watchman_index.specs.declared.row.FileState.{FileState}
use Rattle.watchman_index.specs.declared.row.Row.{Row}
use Rattle.watchman_index.specs.declared.standing.Standing.{Standing}
use Rattle.watchman_index.specs.declared.standing.Standing.TheVariants.{Joins, Gap}
use Rattle.watchman_index.specs.declared.standing.Standing.TheVariants as standings
use Rattle.watchman_index.specs.declared.told.Told.{Told}
use Rattle.watchman_index.specs.declared.told.Told.TheVariants.{Files, Clock, Subscribed}

-- ---- one message

-- the files that a message lists were applied as those of message n, and its clock is the last
pub record IsApplied (n : ℕ) (c : Changes) (old new : Index) : Type 0 where
  pub files : Applies n (listing_of c.is_fresh_instance) c.files old.files new.files
  pub clocks : Updates (slice_cmp nat_cmp) old.clocks new.clocks c.clock (Some n)
  pub last : new.last_clock ≡ Some c.clock
  pub origin : Learns old.origin c.root c.subscription new.origin
  pub root : Agrees old.origin.root c.root
  pub subscription : Agrees old.origin.subscription c.subscription

-- a clock was kept as one behind message n
pub record IsKept (n : ℕ) (clock : List ℕ) (old new : Index) : Type 0 where
  pub clocks : Updates (slice_cmp nat_cmp) old.clocks new.clocks clock (Some n)
  pub files : new.files ≡ old.files
  pub last : new.last_clock ≡ old.last_clock

-- the clock is later than the last one, and not known
abbrev pub IsNewClock : Index → List ℕ → Type 0
IsNewClock a clock = IsLater a.last_clock clock × (of_name a.clocks clock ≡ None)

-- a clock that is new is kept as one behind message n, and any other changes nothing. Of one of
-- another server or crawl than the last it is not known whether it is earlier
abbrev pub TakesClock : ℕ → List ℕ → Index → Index → Type 0
TakesClock n clock old new =
    (IsNewClock old clock × IsKept n clock old new) ⊎ (¬ IsNewClock old clock × (new ≡ old))

-- an index, and how many messages that list files were applied to it
pub record State : Type 0 where
  pub number : ℕ
  pub index : Index

-- what is known of the file of this name
abbrev pub row_of : List ℕ → State → Option Row
row_of name a = of_name a.index.files name

-- the number that the clock stands for
abbrev pub number_of : List ℕ → State → Option ℕ
number_of clock a = of_name a.index.clocks clock

-- no message was applied
pub record IsNew (a : State) : Type 0 where
  pub number : a.number ≡ 0
  pub files : IsEmpty a.index.files
  pub clocks : IsEmpty a.index.clocks
  pub last : a.index.last_clock ≡ None

-- files that join are applied as those of the next message; what was told, and what lies behind a
-- gap, changes nothing
abbrev pub TakesFiles : Standing → Changes → State → State → Type 0
TakesFiles Joins c a b = (b.number ≡ a.number + 1) × IsApplied b.number c a.index b.index
TakesFiles standings.Told c a b = b ≡ a
TakesFiles Gap c a b = b ≡ a

-- a message with files is taken as it stands to what was told before it. A clock alone is kept as one
-- behind the last message, where it is new; and all else changes nothing
abbrev pub Takes : State → Told → State → Type 0
Takes a (Files c) b = (s : Standing) × IsStanding a.index.last_clock c s × TakesFiles s c a b
Takes a (Clock c) b = (b.number ≡ a.number) × TakesClock a.number c a.index b.index
Takes a (Subscribed c) b = (b.number ≡ a.number) × TakesClock a.number c a.index b.index
Takes a _ b = b ≡ a

-- the message sets the number that the clock stands for
abbrev pub SetsClock : List ℕ → State → Told → Type 0
SetsClock clock a (Files c) = (c.clock ≡ clock) × IsStanding a.index.last_clock c Joins
SetsClock clock a (Clock c) = (c ≡ clock) × IsNewClock a.index clock
SetsClock clock a (Subscribed c) = (c ≡ clock) × IsNewClock a.index clock
SetsClock clock a _ = ⊥

-- ---- which files a message changes

-- a message changes each file that it lists; and where it lists all, each that existed and that it
-- does not list
abbrev pub IsChange : Listing → Option FileState → Option Row → Type 0
IsChange Changed (Some s) was = Unit {0}
IsChange Changed None was = ⊥
IsChange All (Some s) was = Unit {0}
IsChange All None was = IsSomeAnd was (λ r. r.state.exists ≡ true)

-- a message that joins changes the file of this name
abbrev pub ChangesFile : List ℕ → State → Told → Type 0
ChangesFile name a (Files c) = IsStanding a.index.last_clock c Joins
    × IsChange (listing_of c.is_fresh_instance) (of_name c.files name) (row_of name a)
ChangesFile name a _ = ⊥

-- ---- messages in turn

-- a message, and what it gives
pub record Message : Type 0 where
  pub bytes : List ℕ
  pub told : Told

-- the message gives that, and the index took it
abbrev pub Turn : Types → State → Message → State → Type 0
Turn types a m b = Tells types m.bytes m.told × Takes a m.told b

-- the index took the messages in turn
abbrev pub Turns : Types → State → List Message → State → Type 0
Turns types a messages b = FoldsTo (Turn types) a messages b

-- none of the messages sets the number of this clock
abbrev pub NoneSets : Types → List ℕ → State → List Message → State → Type 0
NoneSets types clock a [] b = Unit {0}
NoneSets types clock a (m ∷ messages) b = (j : State) × Turn types a m j × Turns types j messages b
    × ¬ SetsClock clock a m.told × NoneSets types clock j messages b

-- one of the messages changed the file of this name
abbrev pub OneChanges : Types → List ℕ → State → List Message → State → Type 0
OneChanges types name a [] b = ⊥
OneChanges types name a (m ∷ messages) b = (j : State) × Turn types a m j × Turns types j messages b
    × (ChangesFile name a m.told ⊎ OneChanges types name j messages b)

-- ---- the laws

-- two indices with the same files, clocks and last clock
pub record IsAlike (a b : State) : Type 0 where
  pub number : a.number ≡ b.number
  pub files : (name : List ℕ) → row_of name a ≡ row_of name b
  pub clocks : (clock : List ℕ) → number_of clock a ≡ number_of clock b
  pub last : a.index.last_clock ≡ b.index.last_clock

-- what an index has is determined by the messages that it took, from nothing on
abbrev pub ToldTheSame : Types → Type 0
ToldTheSame types = (messages : List Message) (a b c d : State) → IsNew a → IsNew c
    → Turns types a messages b → Turns types c messages d → IsAlike b d

-- a clock that no message set is not known
abbrev pub UntoldIsUnknown : Types → Type 0
UntoldIsUnknown types = (messages : List Message) (clock : List ℕ) (a b : State) → IsNew a
    → Turns types a messages b → NoneSets types clock a messages b → number_of clock b ≡ None

-- the file changed since the clock
abbrev pub IsSince : List ℕ → List ℕ → State → Type 0
IsSince name clock a = IsSomeAnd (row_of name a) (λ r. is_since (number_of clock a) r ≡ true)

-- the clock is known, and the files that changed since are those that one of the messages changed
pub record ChangedSince (types : Types) (clock : List ℕ)
    (a : State) (messages : List Message) (b : State) : Type 0 where
  pub known : number_of clock b ≡ Some a.number
  pub changed : (name : List ℕ) → IsSince name clock b ↔ OneChanges types name a messages b

-- what changed since a clock is what the messages behind the last one that set it changed
abbrev pub ToldInTurn : Types → Type 0
ToldInTurn types = (before behind : List Message) (m : Message) (clock : List ℕ) (a i j b : State)
    → IsNew a → Turns types a before i → Turn types i m j → Turns types j behind b
    → SetsClock clock i m.told → NoneSets types clock j behind b
    → ChangedSince types clock j behind b
