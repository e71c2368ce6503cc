-- What was expected, whatever it was, and is reported to a builder.
use Rattle.std.specs.Prelude.{◌≡◌, ℕ, List, [], Option, Some, None, get_or, IsUtf8}
use Rattle.bser_format.specs.Tree.{Tree, null}
use Rattle.bser_format.specs.Expand.{expand}
use Rattle.bser_format.specs.Expected.{Due, nothing_due, node_due, key_due, name_due, Fills}
use Rattle.bser_format.specs.Grammar.{Spells, SpellsField}
use Rattle.bser_format.specs.NamedLaws.{HasTextKeys}
use Rattle.bser_source.specs.Window.{Window, Took}
use Rattle.bser_events.specs.Events.{Event, key, TakesAll, events}
use Rattle.bser_deserializer.specs.State.{State, past}
use Rattle.bser_deserializer.specs.WholeRows.{HasWholeRows}

-- what was expected was taken: the bytes fill it with what a tree means, and the events of that
-- tree were reported
pub record TookAny {B : Type 0} (takes : B → Event → B → Type 0) (before after : B) (old new : State) : Type 0 where
  pub tree : Tree
  pub text : List ℕ
  pub filled : Fills old.levels old.due (expand tree) text
  -- where a value was expected, the tree is the one that the bytes spell
  pub spelled : old.due ≡ node_due → Spells old.levels tree text
  pub rows : HasWholeRows tree
  pub keys : HasTextKeys tree
  pub took : Took old.source new.source text
  pub state : new ≡ past old new.source
  pub told : TakesAll takes before (events tree) after

-- ---- parts

-- a value was taken, with n levels left, and reported
pub record TookValue {B : Type 0} (takes : B → Event → B → Type 0) (n : ℕ) (before after : B) (old new : Window) : Type 0 where
  pub tree : Tree
  pub text : List ℕ
  pub spelled : Spells n tree text
  pub keys : HasTextKeys tree
  pub took : Took old new text
  pub told : TakesAll takes before (events tree) after

-- a field as it is reported: null where it is skipped
abbrev pub told_field : Option Tree → Tree
told_field None = null
told_field (Some t) = t

-- a row's field was taken, with n levels left, and reported
pub record TookField {B : Type 0} (takes : B → Event → B → Type 0) (n : ℕ) (before after : B) (old new : Window) : Type 0 where
  pub field : Option Tree
  pub text : List ℕ
  pub spelled : SpellsField (Spells n) field text
  pub keys : HasTextKeys (told_field field)
  pub took : Took old new text
  pub told : TakesAll takes before (events (told_field field)) after

-- the key at this place was reported, which is UTF-8
pub record TellsName {B : Type 0} (takes : B → Event → B → Type 0) (place : ℕ) (ks : List (List ℕ)) (before after : B) : Type 0 where
  pub utf8 : IsUtf8 (get_or ks place [])
  pub told : takes before (key (get_or ks place [])) after

-- a key is expected, or nothing
abbrev pub IsKeyDue : Due → Type 0
IsKeyDue nothing_due = Unit {0}
IsKeyDue key_due = Unit {0}
IsKeyDue (name_due k) = Unit {0}
IsKeyDue _ = ⊥
