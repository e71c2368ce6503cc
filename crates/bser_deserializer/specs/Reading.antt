-- What a reading type answers.
use Rattle.std.specs.Prelude.{◌≡◌, ◌⊎◌, ℕ, Bool, true, false, ◌||◌, List, ◌++◌, length, Option, Some, None}
use Rattle.bser_format.specs.Tree.{Tree}
use Rattle.bser_format.specs.Grammar.{Format}
use Rattle.bser_format.specs.Content.{Content, Meaning}
use Rattle.bser_format.specs.Expected.{Fills}
use Rattle.bser_format.specs.declared.errors.Error.{Error}
use Rattle.bser_format.specs.declared.errors.Error.TheVariants.{DeCustom, DeReaderError, DeTooLong, SerCustom, SerNeedSize, SerU64TooBig, Io, OutOfMemory}
use Rattle.bser_format.specs.declared.errors.Message.TheVariants.{Fixed}
use Rattle.bser_format.specs.declared.errors.Complaint.TheVariants.{BorrowedFromCopying}
use Rattle.bser_format.specs.declared.errors.ReadCause.TheVariants.{Reader, Memory}
use Rattle.bser_format.specs.Named as named
use Rattle.bser_format.specs.Named.{refuses}
use Rattle.bser_format.specs.DueReaders.{Seen, asked}
use Rattle.bser_format.specs.Asks.{Asks}
use Rattle.bser_format.specs.TypeLaws.{Passes}
use Rattle.bser_source.specs.Window.{Window, Took, left}
use Rattle.bser_bunser.specs.Refusal.{Fails}
use Rattle.bser_bunser.specs.Names.{Blame, Excused, MayBeLeft, Outside, RefusedAs}
use Rattle.bser_deserializer.specs.State.{State, past}

-- what was expected is read: the bytes that were taken fill it, and the tree that they mean reads
-- as what v holds
pub record Answers {A : Type 0} (reads : Meaning) (holds : A → Content → Type 0) (old new : State) (v : A) : Type 0 where
  pub tree : Tree
  pub content : Content
  pub text : List ℕ
  pub filled : Fills old.levels old.due tree text
  pub read : reads tree ≡ Some content
  pub held : holds v content
  pub took : Took old.source new.source text
  pub state : new ≡ past old new.source

-- ---- what reading may need

-- what a type needs: whether a value may hold bytes that the source lends, whether reading a value
-- may take memory, whether an error may, for a template's keys, and whether bytes are read that a
-- source copies which lends none
pub record Needs : Type 0 where
  pub lent : Bool
  pub memory : Bool
  pub keys : Bool
  pub copied : Bool

-- reading holds nothing borrowed and takes no memory
abbrev pub bare : Needs
bare = record { lent = false; memory = false; keys = false; copied = false }

-- the same, but for bytes that are copied
abbrev pub copying : Needs
copying = record { lent = false; memory = false; keys = false; copied = true }

-- the same, and for the keys of a template that fails
abbrev pub only_keys : Needs
only_keys = record { lent = false; memory = false; keys = true; copied = true }

-- a value that owns its bytes
abbrev pub owned : Needs
owned = record { lent = false; memory = true; keys = false; copied = true }

-- a value that holds borrowed bytes
abbrev pub lending : Needs
lending = record { lent = true; memory = false; keys = false; copied = true }

-- no memory is taken: for no value, for no template's keys, and for no bytes that are copied
abbrev pub TakesNoMemory : Needs → Type 0
TakesNoMemory needs = needs.memory || needs.keys || needs.copied ≡ false

-- what is needed where it fails: memory for the keys of a template too
abbrev pub refusing : Needs → Needs
refusing needs = record needs { memory = needs.memory || needs.keys }

-- ---- errors

-- an error that the bytes left are not to blame for, where these needs, the source or an earlier
-- call give reason for it
abbrev pub OutsideBy : Needs → Blame → Error → Window → Type 0
OutsideBy needs P OutOfMemory s = (s.lends ≡ false) ⊎ (needs.memory ≡ true)
OutsideBy needs P (DeCustom (Fixed BorrowedFromCopying)) s = (s.lends ≡ false) × (needs.lent ≡ true)
OutsideBy needs P e s = Outside P e s

-- the same, where the bytes wanted are at the start, n of them
abbrev pub ExcusedBy : Needs → ℕ → Error → Window → Type 0
ExcusedBy needs n OutOfMemory s = (s.lends ≡ false) ⊎ (needs.memory ≡ true)
ExcusedBy needs n (DeCustom (Fixed BorrowedFromCopying)) s = (s.lends ≡ false) × (needs.lent ≡ true)
ExcusedBy needs n e s = Excused n e s

-- an error of the bytes, the type, the order of the calls or an earlier error; none is an error of
-- writing, or of a limit of bytes
abbrev pub IsRefusal : Error → Type 0
IsRefusal OutOfMemory = ⊥
IsRefusal (DeReaderError (Reader fault)) = ⊥
IsRefusal (DeReaderError Memory) = ⊥
IsRefusal (DeCustom (Fixed BorrowedFromCopying)) = ⊥
IsRefusal (DeTooLong announced most) = ⊥
IsRefusal (SerCustom msg) = ⊥
IsRefusal (SerNeedSize kind) = ⊥
IsRefusal (SerU64TooBig v) = ⊥
IsRefusal (Io fault) = ⊥
IsRefusal _ = Unit {0}

-- an error that these needs and this source leave room for
abbrev pub MayRefuse : Needs → Error → Window → Type 0
MayRefuse needs e s = IsRefusal e ⊎ ExcusedBy (refusing needs) 0 e s

-- r gives this error on what is left, or there is a reason outside the bytes
abbrev pub NamesBy : {X : Type 0} → Needs → named.Reader X → Error → Window → Type 0
NamesBy needs r e s = ((b : List ℕ) × MayBeLeft s b × (r b ≡ refuses e)) ⊎ OutsideBy (refusing needs) (RefusedAs r) e s

-- a call that wants bytes of this form fails, with an error of which this holds
pub record RefusesFront (needs : Needs) (Wanted : Format) (Named : Type 0) (e : Error) (old new : Window) : Type 0 where
  pub fails : Fails e old new
  pub may : MayRefuse needs e old
  pub names : Named
  -- where the bytes left begin as is wanted, they are not to blame
  pub excuse : (text rest : List ℕ) → Wanted text → left old ≡ Some (text ++ rest) → ExcusedBy needs (length text) e old

-- ---- errors of a type

-- what is expected, as a tree that reads
pub record FillsReadably (reads : Meaning) (s : State) (text : List ℕ) : Type 0 where
  pub tree : Tree
  pub content : Content
  pub filled : Fills s.levels s.due tree text
  pub read : reads tree ≡ Some content

-- which reader gives a type's errors: one that passes over what the type reads
pub record Asking (R : Meaning) : Type 0 where
  pub asks : Asks
  pub passes : Passes asks R

-- the error that a type gives of what is expected, where it says one
abbrev pub NamesAsked : {R : Meaning} → Needs → Option (Asking R) → Error → State → Type 0
NamesAsked needs None e s = Unit {0}
NamesAsked needs (Some a) e s = NamesBy needs (a.asks s.opened s.levels s.due) e s.source

-- what is expected gives the errors of the type: the one that it says, and where a prefix of the
-- bytes left reads, only for a reason outside them
abbrev pub Refuses : (reads : Meaning) → Option (Asking reads) → Needs → Error → State → State → Type 0
Refuses reads asks needs e old new =
    RefusesFront needs (FillsReadably reads old) (NamesAsked needs asks e old) e old.source new.source

-- what is expected gives the error that k would give
abbrev pub NamesDue : {X : Type 0} → Needs → (Seen → named.Reader X) → Error → State → Type 0
NamesDue needs k e s = NamesBy needs (asked k s.opened s.due) e s.source
