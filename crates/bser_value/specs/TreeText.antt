-- What `{}` writes of a tree. No value is a template.
use Rattle.std.specs.Prelude.{ℕ, List, [], Option, Some, None, codes, if◌then◌else◌}
use Rattle.std.specs.Fmt.{◌++?◌, comma_space, signed_decimal}
use Rattle.bser_format.specs.MarkedText.{bytes_text}
use Rattle.bser_format.specs.QuotedText.{quoted_text, quoted_key}
use Rattle.bser_format.specs.RealText.{IsRealText, real_text}
use Rattle.bser_format.specs.SomeText.{Exactly, ◌followed_by◌}
use Rattle.bser_format.specs.Tree.{Tree, null, boolean, integer, real, bytes, text, array, object, template, Items, no_items, item, Entries, no_entries, entry}

-- a text of the tree; texts of items and of entries, with a comma and a space between them, with
-- what comes before the first, and up to the bracket that closes them
abbrev mutual
  pub IsTextOf : Tree → List ℕ → Type 0
  IsTextOf null = Exactly (codes "null")
  IsTextOf (boolean b) = Exactly (if b then codes "true" else codes "false")
  IsTextOf (integer n) = Exactly (signed_decimal n)
  IsTextOf (real bits) = IsRealText bits
  IsTextOf (bytes s) = Exactly (bytes_text s)
  IsTextOf (text s) = Exactly (quoted_text s)
  IsTextOf (array ts) = Exactly (codes "[") followed_by AreItems [] ts
  IsTextOf (object es) = Exactly (codes "{") followed_by AreEntries [] es
  IsTextOf (template ks rs) = λ s. ⊥

  pub AreItems : List ℕ → Items → List ℕ → Type 0
  AreItems before no_items = Exactly (codes "]")
  AreItems before (item t ts) = Exactly before followed_by IsTextOf t followed_by AreItems comma_space ts

  pub AreEntries : List ℕ → Entries → List ℕ → Type 0
  AreEntries before no_entries = Exactly (codes "}")
  AreEntries before (entry k t es) = Exactly before followed_by (Exactly (quoted_key k) followed_by Exactly (codes ": ") followed_by IsTextOf t) followed_by AreEntries comma_space es

-- an entry: its key in quotes, a colon, and its value's text
abbrev pub IsEntryText : List ℕ → Tree → List ℕ → Type 0
IsEntryText key t = Exactly (quoted_key key) followed_by Exactly (codes ": ") followed_by IsTextOf t

-- the one text of a tree that holds no finite real; the same of items and of entries
abbrev mutual
  pub tree_text : Tree → Option (List ℕ)
  tree_text null = Some (codes "null")
  tree_text (boolean b) = Some (if b then codes "true" else codes "false")
  tree_text (integer n) = Some (signed_decimal n)
  tree_text (real bits) = real_text bits
  tree_text (bytes s) = Some (bytes_text s)
  tree_text (text s) = Some (quoted_text s)
  tree_text (array ts) = Some (codes "[") ++? item_texts [] ts
  tree_text (object es) = Some (codes "{") ++? entry_texts [] es
  tree_text (template ks rs) = None

  pub item_texts : List ℕ → Items → Option (List ℕ)
  item_texts before no_items = Some (codes "]")
  item_texts before (item t ts) = Some before ++? tree_text t ++? item_texts comma_space ts

  pub entry_texts : List ℕ → Entries → Option (List ℕ)
  entry_texts before no_entries = Some (codes "}")
  entry_texts before (entry k t es) = Some before ++? (Some (quoted_key k) ++? Some (codes ": ") ++? tree_text t) ++? entry_texts comma_space es
