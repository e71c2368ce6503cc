-- The content of a value, but for the tags of its texts.
use Rattle.std.specs.Prelude.{◌≡◌, ◌≤◌, List, ℕ, if◌then◌else◌}
use Rattle.std.specs.Str.{is_utf8}
use Rattle.json.specs.Lex.{tokens}
use Rattle.bser_format.specs.Tree.{Tree, null, boolean, integer, real, bytes, text, array, object, template, Items, no_items, item, Entries, no_entries, entry}
use Rattle.bser_format.specs.Measures.{depth}
use Rattle.bser_format.specs.ValueTree.{IsValueTree}
use Rattle.bser_json.specs.Said.{IsTextOf}
use Rattle.bser_json.specs.declared.printing.Layout.{Layout}
use Rattle.bser_from_json.specs.Made.{string_made, makes, made, most_levels}
use Rattle.bser_from_json.specs.declared.reading.Strings.{Strings}

-- the value with each string that is UTF-8 under the tag that is asked for
abbrev mutual
  pub retagged : Strings → Tree → Tree
  retagged s null = null
  retagged s (boolean b) = boolean b
  retagged s (integer n) = integer n
  retagged s (real bits) = real bits
  retagged s (bytes bs) = if is_utf8 bs then string_made s bs else bytes bs
  retagged s (text t) = string_made s t
  retagged s (array us) = array (retagged_items s us)
  retagged s (object es) = object (retagged_entries s es)
  retagged s (template ks rs) = template ks rs

  pub retagged_items : Strings → Items → Items
  retagged_items s no_items = no_items
  retagged_items s (item u us) = item (retagged s u) (retagged_items s us)

  pub retagged_entries : Strings → Entries → Entries
  retagged_entries s no_entries = no_entries
  retagged_entries s (entry k u es) = entry k (retagged s u) (retagged_entries s es)

-- what is printed of a value makes it again, its strings under the tag that is asked for
abbrev pub PrintedIsMade : Type 0
PrintedIsMade =
    (s : Strings) (layout : Layout) (u : Tree) (xs : List ℕ)
    → IsValueTree u → depth u ≤ most_levels → IsTextOf layout u xs → made s (tokens xs) ≡ makes (retagged s u)
