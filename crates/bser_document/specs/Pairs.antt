-- The entries of an item that are still to come.
use Rattle.std.specs.Prelude.{◌≡◌, ℕ, List, [], ◌∷◌, length, Option, Some, None, cond}
use Rattle.bser_format.specs.Expand.{expand_entries, expand_fields}
use Rattle.bser_format.specs.Normal.{normal_entries, last_entries}
use Rattle.bser_format.specs.SameTree.{same_bytes}
use Rattle.bser_format.specs.Tree.{Tree, entries, entries_of, Fields, fields}
use Rattle.bser_format.specs.Tree as trees
use Rattle.bser_deserializer.specs.WholeRows.{EntriesHaveWholeRows, FieldsHaveWholeRows}
use Rattle.bser_events.specs.Events as told
use Rattle.bser_events.specs.Events.{Event}
use Rattle.bser_document.specs.declared.document.Document.{Document}
use Rattle.bser_document.specs.declared.entries.Entries.{Entries}
use Rattle.bser_document.specs.declared.entries.Entry.{Entry}
use Rattle.bser_document.specs.declared.item.Item.{Item}
use Rattle.bser_document.specs.Spans.{Lies, EntriesLie, KeysLie, FieldsLie}
use Rattle.bser_document.specs.Holds.{HoldsItem, HasTexts}

-- the entries of an object, or the keys of a row with its fields
pub data Pairs : Type 0 where
  pairs_of : trees.Entries → Pairs
  fields_under : List (List ℕ) → Fields → Pairs

-- what they mean, as they are read, in the order that they are spelled in
abbrev pub pairs_value : Pairs → Option (List (List ℕ × Tree))
pairs_value (pairs_of es) = normal_entries (expand_entries es)
pairs_value (fields_under ks fs) = normal_entries (expand_fields ks fs)

-- how many pairs there are
abbrev pub pairs_count : Pairs → ℕ
pairs_count (pairs_of es) = length (entries es)
pairs_count (fields_under ks fs) = length ks

-- the fields of a row begin at this place, and their keys at another
pub record FieldsLieAt (d : Document) (key : Option ℕ) (at : ℕ) (ks : List (List ℕ)) (fs : Fields) : Type 0 where
  pub key_at : ℕ
  pub some : key ≡ Some key_at
  pub keys : KeysLie d ks key_at
  pub count : length (fields fs) ≡ length ks
  pub lie : FieldsLie d fs at

-- the pairs begin at this place, where the keys of fields are at another
abbrev pub PairsLie : Document → Option ℕ → ℕ → Pairs → Type 0
PairsLie d key at (pairs_of es) = (key ≡ None) × EntriesLie d es at
PairsLie d key at (fields_under ks fs) = FieldsLieAt d key at ks fs

-- each row inside has a field for each key
abbrev pub PairsAreWhole : Pairs → Type 0
PairsAreWhole (pairs_of es) = EntriesHaveWholeRows es
PairsAreWhole (fields_under ks fs) = FieldsHaveWholeRows fs

-- these entries are still to come, as they are read
pub record HoldsEntries (s : Entries) (m : List (List ℕ × Tree)) : Type 0 where
  pub pairs : Pairs
  pub lie : PairsLie s.document.now s.key s.at pairs
  pub count : s.left ≡ pairs_count pairs
  pub value : pairs_value pairs ≡ Some m
  pub whole : PairsAreWhole pairs
  pub texts : HasTexts s.document.now

-- the entries that an object is read from
pub record ReadFrom (es : trees.Entries) (s : Entries) : Type 0 where
  pub spelled : List (List ℕ × Tree)
  pub same : es ≡ entries_of (last_entries spelled)
  pub holds : HoldsEntries s spelled

-- the entries of an object are found, and else none are
abbrev pub FindsEntries : Option trees.Entries → Option Entries → Type 0
FindsEntries (Some es) (Some s) = ReadFrom es s
FindsEntries None None = Unit {0}
FindsEntries _ _ = ⊥

-- the first of these entries is given, and the others are still to come; or there is none
abbrev pub GivesEntry : List (List ℕ × Tree) → Option Entry → Entries → Type 0
GivesEntry (p ∷ m) (Some e) s = (e.key.now ≡ p.0) × HoldsItem e.value p.1 × HoldsEntries s m
GivesEntry [] None s = Unit {0}
GivesEntry _ _ _ = ⊥

-- a step over the entries, whichever are still to come
abbrev pub StepsOverEntries : Entries → Option Entry → Entries → Type 0
StepsOverEntries old e new = (m : List (List ℕ × Tree)) → HoldsEntries old m → GivesEntry m e new

-- a value is found, or there is none
abbrev pub FindsItem : Option Tree → Option Item → Type 0
FindsItem (Some u) (Some i) = HoldsItem i u
FindsItem None None = Unit {0}
FindsItem _ _ = ⊥

-- the value of the last entry with this key, or else what was found before
abbrev pub last_from : Option Tree → List ℕ → List (List ℕ × Tree) → Option Tree
last_from found key [] = found
last_from found key (p ∷ m) = last_from (cond (same_bytes key p.0) (Some p.1) found) key m

-- the value of this entry where it has the key, or else what was found before
abbrev pub picked : List ℕ → Option Item → Entry → Option Item
picked key found e = cond (same_bytes key e.key.now) (Some e.value) found

-- r is the key at this place, where one is
abbrev pub IsKeyAt : Document → ℕ → List ℕ → Type 0
IsKeyAt d at r = HasTexts d → (k : List ℕ) (es : List Event) (xs : List (Option ℕ)) → Lies d at (told.key k ∷ es) xs → r ≡ k
