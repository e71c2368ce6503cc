-- What is to come of a value that is put part by part.
use Rattle.std.specs.Prelude.{◌≡◌, ◌≤◌, ℕ, List, [], ◌∷◌, ◌++◌, length}
use Rattle.bser_format.specs.Tree.{Tree, Items, Entries, items, entries}
use Rattle.bser_format.specs.Measures.{depth, items_depth, entries_depth}
use Rattle.bser_format.specs.Canonical.{canonical_body, canonical_items, canonical_entries, IsWritable, ItemsAreWritable, EntriesAreWritable}
use Rattle.bser_format.specs.Expand.{IsTemplateFree, ItemsAreTemplateFree, EntriesAreTemplateFree}
use Rattle.bser_draft.specs.declared.container.Container.{Container}

-- the bytes are the least of a tree without templates, of at most n levels, that can be written
pub record IsLeast (n : ℕ) (b : List ℕ) : Type 0 where
  pub tree : Tree
  pub writable : IsWritable tree
  pub plain : IsTemplateFree tree
  pub deep : depth tree ≤ n
  pub least : b ≡ canonical_body tree

-- of k such trees, one behind the other
pub record AreItems (n k : ℕ) (b : List ℕ) : Type 0 where
  pub trees : Items
  pub count : length (items trees) ≡ k
  pub writable : ItemsAreWritable trees
  pub plain : ItemsAreTemplateFree trees
  pub deep : items_depth trees ≤ n
  pub least : b ≡ canonical_items trees

-- of k entries of such trees
pub record AreEntries (n k : ℕ) (b : List ℕ) : Type 0 where
  pub trees : Entries
  pub count : length (entries trees) ≡ k
  pub writable : EntriesAreWritable trees
  pub plain : EntriesAreTemplateFree trees
  pub deep : entries_depth trees ≤ n
  pub least : b ≡ canonical_entries trees

-- the bytes are what is to come of a container: its next values, and its entries behind them
pub record Comes (o : Container) (b : List ℕ) : Type 0 where
  pub next : List ℕ
  pub behind : List ℕ
  pub whole : b ≡ next ++ behind
  pub are_values : AreItems o.levels o.values next
  pub are_entries : AreEntries o.levels o.entries behind

-- of these containers, the last of which is the innermost
abbrev pub ComesOfAll : List Container → List ℕ → Type 0
ComesOfAll [] b = b ≡ []
ComesOfAll (o ∷ os) b = (x y : List ℕ) × (b ≡ x ++ y) × ComesOfAll os x × Comes o y
