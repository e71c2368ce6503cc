-- What is found in a document is what is written of it.
use Rattle.std.proofs.Common.{◌≡◌, Option, Some, None, refl, sym, ap}
use Rattle.std.specs.Prelude.{option_map}
use Rattle.bser_format.specs.Tree.{Tree}
use Rattle.bser_document.specs.declared.item.Item.{Item}
use Rattle.bser_document.specs.Holds.{HoldsItem, item_value}
use Rattle.bser_document.specs.Pairs.{FindsItem}
use Rattle.bser_document.proofs.Readings.{part_is}

-- an item that holds a value is that value
pub item_is : (i : Item) (u : Tree) → HoldsItem i u → item_value i ≡ u
item_is i u h = sym (part_is i.document.now i.keys i.at u h)

-- what is found is the item's value, and none where there is none
pub found_is : (v : Option Tree) (found : Option Item) → FindsItem v found → option_map item_value found ≡ v
found_is None None h = refl
found_is None (Some i) h = absurd h
found_is (Some u) None h = absurd h
found_is (Some u) (Some i) h = ap Some (item_is i u h)
