-- What a message as a whole is read as.
use Rattle.std.specs.Prelude.{◌≡◌, ◌≢◌, ◌⊎◌, Result, IfErr, ℕ, suc, ◌≤◌, ◌^◌, max, List, ◌++◌, length, true, Option, Some, None}
use Rattle.std.specs.Io.KnownBytes.{Consumes}
use Rattle.bser_format.specs.Tree.{Tree}
use Rattle.bser_format.specs.Expand.{expand}
use Rattle.bser_format.specs.Message.{IsMessage}
use Rattle.bser_format.specs.Content.{Content, Meaning}
use Rattle.bser_format.specs.Expected.{node_due}
use Rattle.bser_format.specs.Grammar.{Format}
use Rattle.bser_format.specs.declared.errors.Error.{Error}
use Rattle.bser_format.specs.declared.errors.Error.TheVariants.{DeReaderError, OutOfMemory}
use Rattle.bser_format.specs.declared.errors.ReadCause.TheVariants.{Reader, Failed}
use Rattle.bser_source.specs.Device.{Blamed}
use Rattle.bser_source.specs.declared.device.Source as source
use Rattle.bser_format.specs.Named as named
use Rattle.bser_source.specs.Window.{Window, Took, left, with_limit}
use Rattle.bser_bunser.specs.Refusal.{failures_by}
use Rattle.bser_bunser.specs.Tagged.{IsHead}
use Rattle.bser_deserializer.specs.Seen.{Seen}
use Rattle.bser_deserializer.specs.State.{State, Begins}
use Rattle.bser_types.specs.declared.deserialize.Shape as shape
use Rattle.bser_bunser.specs.Names.{Agree}
use Rattle.bser_deserializer.specs.Reading.{Answers, Asking, ExcusedBy, IsRefusal, MayRefuse, NamesBy, RefusesFront, TakesNoMemory, Needs}

-- ---- what is read

-- the text is a message of at most n levels, whose expanded tree reads as the content
pub record ReadsMessageAs (n : ℕ) (reads : Meaning) (text : List ℕ) (c : Content) : Type 0 where
  pub capabilities : ℕ
  pub tree : Tree
  pub message : IsMessage n capabilities tree text
  pub read : reads (expand tree) ≡ Some c

-- a prefix of the bytes is a message that reads as what v holds
pub record BeginsWith {A : Type 0} (n : ℕ) (reads : Meaning) (holds : A → Content → Type 0) (bytes : List ℕ) (v : A) : Type 0 where
  pub text : List ℕ
  pub rest : List ℕ
  pub front : bytes ≡ text ++ rest
  pub content : Content
  pub message : ReadsMessageAs n reads text content
  pub held : holds v content

-- exactly one message was taken, which reads as what v holds
pub record TookMessage {A : Type 0} (n : ℕ) (reads : Meaning) (holds : A → Content → Type 0) (old new : Option (List ℕ)) (v : A) : Type 0 where
  pub text : List ℕ
  pub bytes : Consumes old new text
  pub content : Content
  pub message : ReadsMessageAs n reads text content
  pub held : holds v content

-- a source took exactly one message, and may not take bytes past it
pub record ReadsMessage {A : Type 0} (n : ℕ) (reads : Meaning) (holds : A → Content → Type 0) (old new : Window) (v : A) : Type 0 where
  pub text : List ℕ
  pub content : Content
  pub message : ReadsMessageAs n reads text content
  pub held : holds v content
  pub took : Took old (with_limit old.limit new) text
  pub limit : new.limit ≤ max old.limit new.count

-- a message's header and its value were taken
pub record ReadsBody {A : Type 0} (n : ℕ) (reads : Meaning) (holds : A → Content → Type 0) (old : Window) (new : State) (v : A) : Type 0 where
  pub begun : State
  pub begins : Begins n old begun
  pub answers : Answers reads holds begun new v

-- the text is a message that reads
abbrev pub IsReadableMessage : ℕ → Meaning → Format
IsReadableMessage n reads text = (c : Content) × ReadsMessageAs n reads text c

-- the bytes left, where they are known, begin with a message's header
pub record BeginWithHead (left : Option (List ℕ)) : Type 0 where
  pub text : List ℕ
  pub head : IsHead text
  pub front : (x : List ℕ) → left ≡ Some x → (rest : List ℕ) × (x ≡ text ++ rest)

-- ---- its errors

-- the name that a type gives a message, where the type tells of names
abbrev pub NamesMessage : {R : Meaning} → ℕ → Needs → Option (Asking R) → Error → Window → Type 0
NamesMessage n needs None e s = Unit {0}
NamesMessage n needs (Some a) e s = NamesBy needs (named.message (a.asks 0 n node_due)) e s

-- the error of a message's header or value
abbrev pub RefusesBody : ℕ → (reads : Meaning) → Option (Asking reads) → Needs → Error → Window → Window → Type 0
RefusesBody n reads asks needs e old new = RefusesFront needs (IsReadableMessage n reads) (NamesMessage n needs asks e old) e old new

-- the error of a message: the one that its reader gives, and where a prefix of the bytes left is
-- one that the type reads, only for a reason outside them
pub record RefusesMessage (n : ℕ) (reads : Meaning) (asks : Option (Asking reads)) (needs : Needs) (e : Error) (old new : Window) : Type 0 where
  pub through : new.through ≡ old.through
  pub failures : new.failures ≡ failures_by e old.failures
  pub may : MayRefuse needs e old
  pub names : NamesMessage n needs asks e old
  pub excuse : (text rest : List ℕ) → IsReadableMessage n reads text → left old ≡ Some (text ++ rest) → ExcusedBy needs (length text) e old

-- what its contract shows stays as it was
abbrev pub Same : {S X : Type 0} → (S → X) → S → S → Type 0
Same told old new = told new ≡ told old

-- a type that takes no memory does not run out of it
abbrev pub SparesMemory : {A : Type 0} → Needs → Result A Error → Type 0
SparesMemory needs answer = TakesNoMemory needs → IfErr answer (λ e. e ≢ OutOfMemory)

-- out of memory comes only after a message's header
abbrev pub HeadFirst : {A : Type 0} → Option (List ℕ) → Result A Error → Type 0
HeadFirst left answer = IfErr answer (λ e. e ≡ OutOfMemory → BeginWithHead left)

-- ---- slices

-- out of memory, of a type that takes some to read a value
pub record IsMemory (needs : Needs) (e : Error) : Type 0 where
  pub memory : e ≡ OutOfMemory
  pub needed : needs.memory ≡ true

-- the error of a slice is the first one in the order of reading, where the type says which, or out
-- of memory
abbrev pub NamesSlice : {R : Meaning} → ℕ → Option (Asking R) → Error → List ℕ → Type 0
NamesSlice n None e bytes = Unit {0}
NamesSlice n (Some a) e bytes = (named.message (a.asks 0 n node_due) bytes ≡ named.refuses e) ⊎ (e ≡ OutOfMemory)

-- the error of a slice: no prefix of it is a message that the type reads, or memory ran out for a
-- type that takes some to read a value; out of memory is answered only of a type that may take
-- some, and else the bytes or the type are to blame
pub record RefusesSlice (n : ℕ) (reads : Meaning) (asks : Option (Asking reads)) (needs : Needs) (e : Error) (bytes : List ℕ) : Type 0 where
  pub may : IsRefusal e ⊎ (e ≡ OutOfMemory)
  pub names : NamesSlice n asks e bytes
  pub excuse : (text rest : List ℕ) (c : Content) → ReadsMessageAs n reads text c → bytes ≡ text ++ rest → IsMemory needs e
  pub memory : e ≡ OutOfMemory → (needs.memory ≡ true) ⊎ (needs.keys ≡ true)

-- ---- readers

-- out of memory, or a failure that the reader counted
abbrev pub IsReaderFault : ℕ → ℕ → Error → Type 0
IsReaderFault before after OutOfMemory = Unit {0}
IsReaderFault before after (DeReaderError (Reader fault)) = Blamed before after
IsReaderFault before after _ = ⊥

-- bytes that the reader may still give
abbrev pub MayCome : Option (List ℕ) → List ℕ → Type 0
MayCome left b = (x : List ℕ) → left ≡ Some x → b ≡ x

-- bytes that agree with what the reader may still give are too few for r, and with one more there are 2^64
pub record TooMany {X : Type 0} (r : named.Reader X) (left : Option (List ℕ)) : Type 0 where
  pub text : List ℕ
  pub comes : (x : List ℕ) → left ≡ Some x → Agree text x
  pub few : r text ≡ named.refuses named.eof
  pub long : 2 ^ 64 ≤ suc (length text)

-- out of memory, a failure that the reader counted, or more bytes than are counted
abbrev pub IsOutside : {X : Type 0} → named.Reader X → Option (List ℕ) → ℕ → ℕ → Error → Type 0
IsOutside r left before after (DeReaderError Failed) = TooMany r left
IsOutside r left before after e = IsReaderFault before after e

-- the error of a reader is the first one of the bytes left, where the type says which, or has a
-- reason outside them
abbrev pub NamesReader : {R : Meaning} → ℕ → Option (Asking R) → Error → Option (List ℕ) → ℕ → ℕ → Type 0
NamesReader n None e left before after = Unit {0}
NamesReader n (Some a) e left before after =
    ((b : List ℕ) × MayCome left b × (named.message (a.asks 0 n node_due) b ≡ named.refuses e))
    ⊎ IsOutside (named.message (a.asks 0 n node_due)) left before after e

-- the error of a reader: no prefix of the bytes left is a message that the type reads, or memory
-- ran out or the reader failed; a type that borrows nothing never fails to borrow
pub record RefusesReader (n : ℕ) (reads : Meaning) (asks : Option (Asking reads)) (e : Error) (left : Option (List ℕ)) (before after : ℕ) : Type 0 where
  pub may : IsRefusal e ⊎ IsReaderFault before after e
  pub names : NamesReader n asks e left before after
  pub excuse : (text rest : List ℕ) (c : Content) → ReadsMessageAs n reads text c → left ≡ Some (text ++ rest) → IsReaderFault before after e

-- the same of a reader before and after the call, by what its contract shows
abbrev pub RefusesReading : {S : Type 0} → ℕ → (reads : Meaning) → Option (Asking reads) → (S → Option (List ℕ)) → (S → ℕ) → S → S → Error → Type 0
RefusesReading n reads asks remaining failures old new e =
    RefusesReader n reads asks e (remaining old) (failures old) (failures new)

-- ---- what the calls answer, by a type's meaning

-- a slice is refused as a message of the type
abbrev pub SliceRefused : {A : Type 0} → ℕ → shape.Ghosts A → List ℕ → Error → Type 0
SliceRefused n type bytes e = RefusesSlice n type.reads type.asks type.needs e bytes

-- exactly one message of a deserializer was read, as what v holds
abbrev pub WholeRead : {A : Type 0} → ℕ → shape.Ghosts A → Seen → Seen → A → Type 0
WholeRead n type old new v = ReadsMessage n type.reads type.holds old.state.source new.state.source v

-- a deserializer's message is refused as one of the type
abbrev pub WholeRefused : {A : Type 0} → ℕ → shape.Ghosts A → Seen → Seen → Error → Type 0
WholeRefused n type old new e =
    RefusesMessage n type.reads type.asks type.needs e old.state.source new.state.source

-- out of memory is the reason only after a deserializer's message began with a head
abbrev pub HeadBeforeMemory : Seen → Seen → Type 0
HeadBeforeMemory old new = new.refusal ≡ OutOfMemory → BeginWithHead (left old.state.source)

-- exactly the next message of a reader was taken, which reads as what v holds
abbrev pub ReaderRead : {A S : Type 0} → ℕ → shape.Ghosts A → source.Ghosts S → S → S → A → Type 0
ReaderRead n type told old new v =
    TookMessage n type.reads type.holds (told.remaining old) (told.remaining new) v

-- a reader's next message is refused as one of the type
abbrev pub ReaderRefused : {A S : Type 0} → ℕ → shape.Ghosts A → source.Ghosts S → S → S → Error → Type 0
ReaderRefused n type told old new e =
    RefusesReading n type.reads type.asks told.remaining told.failures old new e
