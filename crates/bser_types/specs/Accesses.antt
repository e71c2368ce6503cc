-- What callers see of an access to an open container, and how a call leaves it.
use Rattle.std.specs.Prelude.{◌≡◌, ◌⊎◌, ℕ, List, map, true, false, Option, Some}
use Rattle.std.specs.Borrow.{Bor, GName, MutBor}
use Rattle.bser_format.specs.Content.{Content, Meaning, one}
use Rattle.bser_format.specs.ReadsAny.{reads_ignored}
use Rattle.bser_format.specs.ReadsScalars.{reads_string}
use Rattle.bser_format.specs.declared.errors.Error.{Error}
use Rattle.bser_deserializer.specs.Access.{OpenItems, OpenPairs, OpensItems, OpensPairs, NextItem, IsNextItem, RefusesItem, ClosesItems, LeavesItems, NextKey, NoEntry, RefusesKey, IsValue, RefusesValue, NextEntry, RefusesLater, AwaitsKey, AwaitsValue, OutOfTurn, ClosesPairs, LeavesPairs, items_in, pairs_in}
use Rattle.bser_deserializer.specs.Askings.{asking_ignored, asking_string}
use Rattle.bser_deserializer.specs.Fields.{HoldsField}
use Rattle.bser_deserializer.specs.Parts.{item_due, items_after, pairs_after}
use Rattle.bser_deserializer.specs.Reading.{Answers, Asking, Needs, Refuses, bare, owned}
use Rattle.bser_deserializer.specs.Required.{RefusesRequired}
use Rattle.bser_deserializer.specs.Seen.{Seen}
use Rattle.bser_deserializer.specs.State.{State, awaiting, refused}
use Rattle.bser_deserializer.specs.View.{items_head, pairs_head}
use Rattle.bser_deserializer.specs.declared.field.Field.{Field}
use Rattle.bser_types.specs.declared.seq.SeqAccess.{SeqAccess}
use Rattle.bser_types.specs.declared.map.MapAccess.{MapAccess}

-- what is expected is read, as what the value holds
abbrev pub ReadsDue : {A : Type 0} → Meaning → (A → Content → Type 0) → Seen → Seen → A → Type 0
ReadsDue reads holds old new = Answers reads holds old.state new.state

-- what is expected gives the errors of the type
abbrev pub RefusesDue : (reads : Meaning) → Option (Asking reads) → Needs → Seen → Seen → Type 0
RefusesDue reads asks needs old new = Refuses reads asks needs new.refusal old.state new.state

-- what is expected is passed over, whole
abbrev pub SkipsDue : Seen → Seen → Unit {0} → Type 0
SkipsDue = ReadsDue reads_ignored (λ _ c. c ≡ one)

-- what is expected is of no kind that is passed over
abbrev pub RefusesSkip : Seen → Seen → Type 0
RefusesSkip = RefusesDue reads_ignored (Some asking_ignored) owned

-- ---- an array or a template

-- the array or template whose items an access reads
abbrev pub open_items : {R L K : Type 0} → SeqAccess R L K → OpenItems
open_items a = items_head a.head a.from.now.state

-- the reference to the deserializer that an access to items holds
abbrev pub items_reference : {R L K : Type 0} → SeqAccess R L K → GName
items_reference a = a.from.ghost_name

-- its last error
abbrev pub items_refusal : {R L K : Type 0} → SeqAccess R L K → Error
items_refusal a = a.from.now.refusal

module _ {R L K : Type 0} (a : SeqAccess R L K) where
  -- the same, and its next item is expected
  abbrev pub awaiting_item : OpenItems
  awaiting_item = items_in (open_items a) (awaiting (item_due (open_items a).wanted) (open_items a).state) (open_items a).wanted

  -- the same, and one item fewer is left
  abbrev pub past_item : OpenItems
  past_item = items_in (open_items a) (open_items a).state (items_after (open_items a).wanted)

  -- the same, and each later call fails
  abbrev pub refused_items : OpenItems
  refused_items = items_in (open_items a) (refused (open_items a).state) (open_items a).wanted

-- the access holds this reference to a deserializer
abbrev pub IsSeqOf : {R L K : Type 0} → MutBor Seen → SeqAccess R L K → Type 0
IsSeqOf d a = items_reference a ≡ d.ghost_name

-- the access reads the array or template that was expected
abbrev pub OpensSeq : {R L K : Type 0} → Seen → SeqAccess R L K → Type 0
OpensSeq d a = OpensItems d.state (open_items a)

module _ {R L K : Type 0} (old new : SeqAccess R L K) where
  -- both hold one reference to a deserializer
  abbrev pub SameItemsReference : Type 0
  SameItemsReference = items_reference new ≡ items_reference old

module _ {R L K A : Type 0} (reads : Meaning) (holds : A → Content → Type 0) (old new : SeqAccess R L K) where
  -- the next item, or none where none is left
  abbrev pub GivesElement : Option A → Type 0
  GivesElement = NextItem reads holds (open_items old) (open_items new)

  -- the next item, which is there
  abbrev pub GivesRequired : A → Type 0
  GivesRequired = IsNextItem reads holds (open_items old) (open_items new)

module _ {R L K : Type 0} (reads : Meaning) (asks : Option (Asking reads)) (needs : Needs) (old new : SeqAccess R L K) where
  -- an item is left, and gives an error
  abbrev pub RefusesElement : Type 0
  RefusesElement = RefusesItem reads asks needs (items_refusal new) (open_items old) (open_items new).state

  -- the item gives an error, or is not there
  abbrev pub RefusesRequiredElement : Type 0
  RefusesRequiredElement = RefusesRequired reads asks needs (items_refusal new) (open_items old) (open_items new).state

module _ {R L K : Type 0} (last : SeqAccess R L K) (new : Seen) where
  -- no item is left, and the array or template is closed
  abbrev pub EndsSeq : Type 0
  EndsSeq = ClosesItems (open_items last) new.state

  -- items are left at the end
  abbrev pub RefusesSeqEnd : Type 0
  RefusesSeqEnd = LeavesItems new.refusal (open_items last) new.state

-- ---- an object or a row

-- the object or row whose entries an access reads
abbrev pub open_pairs : {R L K : Type 0} → MapAccess R L K → OpenPairs
open_pairs a = record (pairs_head a.head a.from.now.state) { pending = a.pending }

-- the reference to the deserializer that an access to entries holds
abbrev pub pairs_reference : {R L K : Type 0} → MapAccess R L K → GName
pairs_reference a = a.from.ghost_name

-- its last error
abbrev pub pairs_refusal : {R L K : Type 0} → MapAccess R L K → Error
pairs_refusal a = a.from.now.refusal

-- the keys of the rows that are read
abbrev pub row_keys : {R L K : Type 0} → MapAccess R L K → List (List ℕ)
row_keys a = a.from.now.state.keys

-- no call failed
abbrev pub IsWorking : {R L K : Type 0} → MapAccess R L K → Type 0
IsWorking a = a.from.now.state.source.failed ≡ false

module _ {R L K : Type 0} (a : MapAccess R L K) where
  -- the same, and the value of the key that was read is expected next
  abbrev pub past_key : OpenPairs
  past_key = pairs_in (open_pairs a) (open_pairs a).state (pairs_after (open_pairs a).wanted) true

  -- the same, and each later call fails
  abbrev pub refused_pairs : OpenPairs
  refused_pairs = pairs_in (open_pairs a) (refused (open_pairs a).state) (open_pairs a).wanted (open_pairs a).pending

-- the access holds this reference to a deserializer
abbrev pub IsMapOf : {R L K : Type 0} → MutBor Seen → MapAccess R L K → Type 0
IsMapOf d a = pairs_reference a ≡ d.ghost_name

-- the access reads the object or row that was expected
abbrev pub OpensMap : {R L K : Type 0} → Seen → MapAccess R L K → Type 0
OpensMap d a = OpensPairs d.state (open_pairs a)

-- an entry is left, and its key or its value gives an error, or it is not its turn
abbrev pub RefusesEntry : {A : Type 0} → (K V : Meaning) → Option (Asking K) → Option (Asking V) → (A → Content → Type 0) → Needs → Needs → Error → OpenPairs → State → Type 0
RefusesEntry K V asks_key asks_value holds_key needs_key needs_value e old new =
    RefusesKey K asks_key needs_key e old new ⊎ RefusesLater K V holds_key asks_value needs_value e old new

module _ {R L K : Type 0} (old new : MapAccess R L K) where
  -- both hold one reference to a deserializer
  abbrev pub SamePairsReference : Type 0
  SamePairsReference = pairs_reference new ≡ pairs_reference old

  -- the next key is expected, and nothing is taken
  abbrev pub MakesKeyDue : Type 0
  MakesKeyDue = AwaitsKey (open_pairs old) (open_pairs new)

  -- the value of the key that was read is expected, and nothing is taken
  abbrev pub MakesValueDue : Type 0
  MakesValueDue = AwaitsValue (open_pairs old) (open_pairs new)

  -- no entry is left, and nothing changes
  abbrev pub IsAfterEntries : Type 0
  IsAfterEntries = NoEntry (open_pairs old) (open_pairs new)

  -- a key where a value is expected, or a value where a key is, or a call after an error
  abbrev pub RefusesTurn : Type 0
  RefusesTurn = OutOfTurn (pairs_refusal new) (open_pairs old).state (open_pairs new).state

module _ {R L K A : Type 0} (reads : Meaning) (holds : A → Content → Type 0) (old new : MapAccess R L K) where
  -- the next key, or none where none is left
  abbrev pub GivesKey : Option A → Type 0
  GivesKey = NextKey reads holds (open_pairs old) (open_pairs new)

  -- the value of the key that was read
  abbrev pub GivesValue : A → Type 0
  GivesValue = IsValue reads holds (open_pairs old) (open_pairs new)

module _ {R L K : Type 0} (reads : Meaning) (asks : Option (Asking reads)) (needs : Needs) (old new : MapAccess R L K) where
  -- a key is left, and gives an error, or it is not its turn
  abbrev pub RefusesNextKey : Type 0
  RefusesNextKey = RefusesKey reads asks needs (pairs_refusal new) (open_pairs old) (open_pairs new).state

  -- the value gives an error, or it is not its turn
  abbrev pub RefusesNextValue : Type 0
  RefusesNextValue = RefusesValue reads asks needs (pairs_refusal new) (open_pairs old) (open_pairs new).state

module _ {R L K A : Type 0} (keys vals : Meaning) where
  -- the next key and its value, or none where none is left
  abbrev pub GivesEntry : {B : Type 0} → (A → Content → Type 0) → (B → Content → Type 0) → MapAccess R L K → MapAccess R L K → Option (A × B) → Type 0
  GivesEntry holds_key holds old new = NextEntry keys vals holds_key holds (open_pairs old) (open_pairs new)

  -- the key or the value gives an error, or it is not its turn
  abbrev pub RefusesNextEntry : Option (Asking keys) → Option (Asking vals) → (A → Content → Type 0) → Needs → Needs → MapAccess R L K → MapAccess R L K → Type 0
  RefusesNextEntry asks_key asks holds_key needs_key needs old new =
      RefusesEntry keys vals asks_key asks holds_key needs_key needs (pairs_refusal new) (open_pairs old) (open_pairs new).state

-- the texts behind references
abbrev pub texts : List (Bor (List ℕ)) → List (List ℕ)
texts names = map (λ r. r.now) names

-- the first place among these names of the name that is expected
abbrev pub ReadsName : List (List ℕ) → Seen → Seen → Field → Type 0
ReadsName names = ReadsDue reads_string (HoldsField names)

-- what is expected is no name, and gives the error of a text
abbrev pub RefusesName : Seen → Seen → Type 0
RefusesName = RefusesDue reads_string (Some asking_string) bare

-- the place of the next key among these names, or none where no entry is left
abbrev pub GivesField : {R L K : Type 0} → List (List ℕ) → MapAccess R L K → MapAccess R L K → Option Field → Type 0
GivesField names = GivesKey reads_string (HoldsField names)

-- a key is left, and gives the error of a text, or it is not its turn
abbrev pub RefusesField : {R L K : Type 0} → MapAccess R L K → MapAccess R L K → Type 0
RefusesField = RefusesNextKey reads_string (Some asking_string) bare

module _ {R L K : Type 0} (last : MapAccess R L K) (new : Seen) where
  -- no entry is left and no value is expected, and the object or row is closed
  abbrev pub EndsMap : Type 0
  EndsMap = ClosesPairs (open_pairs last) new.state

  -- entries are left at the end, or a value is expected
  abbrev pub RefusesMapEnd : Type 0
  RefusesMapEnd = LeavesPairs new.refusal (open_pairs last) new.state
