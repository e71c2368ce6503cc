-- What is still to come of an item.
use Rattle.std.specs.Prelude.{◌≡◌, ℕ, List, length, Option, Some, None}
use Rattle.bser_format.specs.Tree.{Tree, template, no_items, item, items, Rows}
use Rattle.bser_format.specs.Tree as trees
use Rattle.bser_format.specs.Expand.{expand_rows}
use Rattle.bser_format.specs.Normal.{normal_items}
use Rattle.bser_deserializer.specs.WholeRows.{HasWholeRows}
use Rattle.bser_document.specs.declared.item.Item.{Item}
use Rattle.bser_document.specs.declared.item.Keys.{Keys}
use Rattle.bser_document.specs.declared.items.Items.{Items}
use Rattle.bser_document.specs.Spans.{TreeLies}
pub use Rattle.bser_document.specs.Parts.{Parts, items_of, rows_of, parts_value, parts_count, RowsLieAt, PartsLie, PartsAreWhole, AreParts}
use Rattle.bser_document.specs.Holds.{HoldsItem, HasTexts}

-- these items are still to come, as they are read
abbrev pub HoldsItems : Items → trees.Items → Type 0
HoldsItems s us = AreParts s.document.now s.keys s.at s.left us

-- the items of an array are found, and else none are
abbrev pub FindsItems : Option trees.Items → Option Items → Type 0
FindsItems (Some us) (Some s) = HoldsItems s us
FindsItems None None = Unit {0}
FindsItems _ _ = ⊥

-- the first of these items is given, and the others are still to come; or there is none
abbrev pub GivesItem : trees.Items → Option Item → Items → Type 0
GivesItem (item u us) (Some i) s = HoldsItem i u × HoldsItems s us
GivesItem no_items None s = Unit {0}
GivesItem _ _ _ = ⊥

-- a step over the items, whichever are still to come
abbrev pub StepsOverItems : Items → Option Item → Items → Type 0
StepsOverItems old i new = (us : trees.Items) → HoldsItems old us → GivesItem us i new

-- how many items there are
abbrev pub length_of : trees.Items → ℕ
length_of us = length (items us)

-- where a template of so many keys begins, its rows are found
abbrev pub RowsBegin : Item → ℕ → Items → Type 0
RowsBegin i len s =
    (ks : List (List ℕ)) (rs : Rows) (us : trees.Items) → len ≡ length ks → TreeLies i.document.now (template ks rs) i.at → HasWholeRows (template ks rs) → HasTexts i.document.now
    → normal_items (expand_rows ks rs) ≡ Some us → HoldsItems s us

-- rows have keys
abbrev pub HasKeys : Items → Type 0
HasKeys s = (k : Keys) × (s.keys ≡ Some k)
