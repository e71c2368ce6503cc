-- What a builder shows of the containers that are open.
use Rattle.std.specs.Prelude.{◌≡◌, ◌⊎◌, ℕ, ◌+◌, ◌≤◌, ◌<◌, List, [], ◌∷◌, ◌++◌, length, map, take, drop, reverse, Option, Some, option_map, string_bytes}
use Rattle.std.specs.List.{AllZip, zip}
use Rattle.bser_format.specs.Tree.{Tree, array, object, entries_of}
use Rattle.bser_format.specs.Normal.{last_entries}
use Rattle.bser_events.specs.Events.{Event}
use Rattle.bser_value.specs.Made.{Open, whole, in_array, in_object, in_keys, in_rows, Stack, built, make, put, named, give, opened, closed, inside}
use Rattle.bser_value.specs.Gathered.{all_items}
use Rattle.bser_value.specs.Places.{ArePlaces}
use Rattle.bser_value.specs.ValueView.{tree_of, items_view, entry_trees}
use Rattle.bser_value.specs.declared.value.Value.{Value}
use Rattle.bser_value.specs.declared.table.Table.{Table}
use Rattle.bser_value.specs.declared.building.Building.{Building}
use Rattle.bser_value.specs.declared.building.Building.TheVariants.{Whole, Array, Object, Template}
use Rattle.bser_value.specs.declared.builder.ValueBuilder.{ValueBuilder}

-- the keys of a template, each at its place
pub record HasKeys (t : Table) (ks : List (List ℕ)) : Type 0 where
  pub places : ArePlaces ks t.places.entries
  pub count : t.count ≡ length ks

-- the keys that were read
pub record ShowsKeys (t : Table) (ks : List (List ℕ)) : Type 0 where
  pub keys : HasKeys t ks
  pub rows : all_items t.rows ≡ []
  pub place : t.place ≡ 0

-- the fields of a row as an object
abbrev pub row_tree : List (List ℕ) → Table → Tree
row_tree ks t = object (entries_of (last_entries (zip ks (map tree_of (take t.count t.fields.items)))))

-- the rows that were read, and of the next one the fields before its place
pub record ShowsRows (t : Table) (ks : List (List ℕ)) (ts : List Tree) (es : List (List ℕ × Tree)) (ls : List (List ℕ)) : Type 0 where
  pub keys : HasKeys t ks
  pub rows : map tree_of (all_items t.rows) ≡ ts
  pub within : t.place ≤ length t.fields.items
  pub part : 0 < t.place → t.place < t.count
  pub entries : es ≡ last_entries (zip ks (map tree_of (take t.place t.fields.items)))
  pub left : ls ≡ drop t.place ks

-- the rows that were read, of which the last has all its fields and is no object yet
pub record ShowsLast (t : Table) (ks : List (List ℕ)) (ts : List Tree) (es : List (List ℕ × Tree)) (ls : List (List ℕ)) : Type 0 where
  pub keys : HasKeys t ks
  pub rows : map tree_of (all_items t.rows) ++ row_tree ks t ∷ [] ≡ ts
  pub some : 0 < t.place
  pub place : t.place ≡ t.count
  pub within : t.place ≤ length t.fields.items
  pub entries : es ≡ []
  pub left : ls ≡ ks

-- a template shows its keys, or its rows
abbrev pub ShowsTable : Table → Open → Type 0
ShowsTable t (in_keys ks) = ShowsKeys t ks
ShowsTable t (in_rows ks ts es ls) = ShowsRows t ks ts es ls ⊎ ShowsLast t ks ts es ls
ShowsTable t _ = ⊥

-- what is being read shows this
abbrev pub ShowsOpen : Building → Open → Type 0
ShowsOpen (Whole v) (whole t) = option_map tree_of v ≡ t
ShowsOpen (Array g) (in_array ts) = map tree_of (all_items g) ≡ ts
ShowsOpen (Object m k) (in_object es l) = (entry_trees m.entries ≡ es) × (option_map string_bytes k ≡ l)
ShowsOpen (Template t) o = ShowsTable t o
ShowsOpen _ _ = ⊥

-- the innermost and those around it, of which the last is the next
pub record Shows (b : ValueBuilder) (s : Stack) : Type 0 where
  pub inner : ShowsOpen b.inner s.inner
  pub around : AllZip ShowsOpen (reverse b.around.items) s.around

-- ---- steps

-- what f makes of what was shown is shown
abbrev pub Turns : {B O : Type 0} → (B → O → Type 0) → (O → Option O) → B → B → Type 0
Turns shows f old new = (a b : _) → shows old a → f a ≡ Some b → shows new b

-- the value that comes next was put in: into a template, into what is being read, into the innermost
abbrev pub PutsInRow : Tree → Table → Table → Type 0
PutsInRow t old new = Turns ShowsTable (put t) old new

abbrev pub PutsNext : Tree → Building → Building → Type 0
PutsNext t old new = Turns ShowsOpen (put t) old new

abbrev pub Gives : Tree → ValueBuilder → ValueBuilder → Type 0
Gives t old new = Turns Shows (give t) old new

-- a key was taken: by a template, by what is being read, by the innermost
abbrev pub NamesField : List ℕ → Table → Table → Type 0
NamesField key old new = Turns ShowsTable (named key) old new

abbrev pub NamesNext : List ℕ → Building → Building → Type 0
NamesNext key old new = Turns ShowsOpen (named key) old new

abbrev pub Names : List ℕ → ValueBuilder → ValueBuilder → Type 0
Names key old new = Turns Shows (λ s. inside (named key s.inner) s.around) old new

-- a container was opened inside the innermost, or the innermost was closed
abbrev pub Opens : Open → ValueBuilder → ValueBuilder → Type 0
Opens o old new = Turns Shows (opened o) old new

abbrev pub Closes : ValueBuilder → ValueBuilder → Type 0
Closes old new = Turns Shows (λ s. closed s.inner s.around) old new

-- an event was taken
abbrev pub Takes : ValueBuilder → Event → ValueBuilder → Type 0
Takes old e new = Turns Shows (make e) old new

-- a value is put in at the next place of a row
pub record PutsField (v : Value) (old new : Table) : Type 0 where
  pub places : new.places ≡ old.places
  pub count : new.count ≡ old.count
  pub rows : new.rows ≡ old.rows
  pub place : old.place ≤ length old.fields.items → new.place ≡ old.place + 1
  pub within : new.place ≤ length new.fields.items
  pub fields : old.place ≤ length old.fields.items → take new.place new.fields.items ≡ take old.place old.fields.items ++ v ∷ []

-- the row whose fields were all read is put in
pub record PutsRow (old new : Table) : Type 0 where
  pub places : new.places ≡ old.places
  pub count : new.count ≡ old.count
  pub place : new.place ≡ 0
  pub row : Value
  pub rows : all_items new.rows ≡ all_items old.rows ++ row ∷ []
  pub tree : (ks : List (List ℕ)) → HasKeys old ks → old.count ≤ length old.fields.items
      → tree_of row ≡ row_tree ks old

-- the rows of a template of which all was read
abbrev pub BuildsRows : Table → List Value → Type 0
BuildsRows t vs = (o : Open) (u : Tree) → ShowsTable t o → built o ≡ Some u → array (items_view vs) ≡ u

-- the value of a container of which all was read
abbrev pub Builds : Building → Option Value → Type 0
Builds b v = (o : Open) (t : Tree) → ShowsOpen b o → built o ≡ Some t → option_map tree_of v ≡ Some t
