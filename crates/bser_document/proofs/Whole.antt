-- A document holds the value that is read of its nodes and strings.
use Rattle.std.proofs.Common.{◌≡◌, ℕ, List, map, Some, refl, sym, ap, subst, ◌∙◌, ◌<◌, ◌+◌, length, arith}
use Rattle.std.specs.Prelude.{unwrap_or}
use Rattle.std.proofs.lemmas.List.{length-map}
use Rattle.bser_format.specs.Measures.{depth}
use Rattle.bser_format.specs.Tree.{Tree, null}
use Rattle.bser_format.specs.Expand.{expand}
use Rattle.bser_format.specs.Normal.{normal}
use Rattle.bser_format.specs.Content.{value}
use Rattle.bser_format.specs.ValueTree.{IsValueTree}
use Rattle.bser_events.specs.Events.{events}
use Rattle.bser_deserializer.specs.WholeRows.{HasWholeRows}
use Rattle.bser_document.specs.declared.document.Document.{Document}
use Rattle.bser_document.specs.declared.document.DocumentNode.{DocumentNode}
use Rattle.bser_document.specs.declared.builder.DocumentBuilder.{DocumentBuilder}
use Rattle.bser_document.specs.Nodes.{event_of, Within, string_lens, marks, unmarked}
use Rattle.bser_document.specs.Spelled.{tree_told}
use Rattle.bser_document.specs.Whole.{tree_in, value_in, TellsTree, HoldsStrings, HoldsNoMore, HasEnds, HasWholeRowsIn, ReadsValue, HoldsValueTree}
use Rattle.bser_document.specs.DocumentView.{ViewsValue, ViewsDocument, HoldsDocument, value_of}
use Rattle.bser_document.proofs.Depth.{read_deep}
use Rattle.bser_document.proofs.Spelled.{tree_told_back}
use Rattle.bser_document.proofs.Facts.{Tree-set, Event-set, List-set, Option-set, ℕ_set, HasWholeRows-prop, once, all_had, Within-had, IsValueTree-had}

-- ---- nodes that tell a tree

pub tree_known : (ns : List DocumentNode) (s : List ℕ) (t : Tree) → map (event_of s) ns ≡ events t → HasWholeRows t → tree_in ns s ≡ t
tree_known ns s t e h = ap tree_told e ∙ tree_told_back t h

pub value_known : (ns : List DocumentNode) (s : List ℕ) (t u : Tree) → map (event_of s) ns ≡ events t → HasWholeRows t → normal (expand t) ≡ Some u → value_in ns s ≡ u
value_known ns s t u e h read = ap (λ x. unwrap_or (normal (expand x)) null) (tree_known ns s t e h) ∙ ap (λ o. unwrap_or o null) read

-- what is known of nodes and strings when a whole value was told
pub record Known (ns : List DocumentNode) (s : List ℕ) : Type 0 where
  pub tells : TellsTree ns s
  pub within : HoldsStrings ns s
  pub total : HoldsNoMore ns s
  pub ends : HasEnds ns s
  pub rows : HasWholeRowsIn ns s
  pub reads : ReadsValue ns s
  pub values : HoldsValueTree ns s

pub known : (b : DocumentBuilder) → ViewsValue b → Known b.nodes.items b.strings.items
known b v =
    let ns : List DocumentNode = b.nodes.items in
    let s : List ℕ = b.strings.items in
    let tree : v.tree ≡ tree_in ns s = sym (tree_known ns s v.tree v.views.shows.same v.rows) in
    let read : v.read ≡ value_in ns s = sym (value_known ns s v.tree v.read v.views.shows.same v.rows v.normal) in
    record {
      tells = v.views.shows.same ∙ ap events tree;
      within = v.views.shows.within;
      total = v.views.shows.total ∙ ap (λ t. string_lens (events t)) tree;
      ends = v.views.marked.ends ∙ ap (λ t. (marks (events t) unmarked).ends) tree;
      rows = subst HasWholeRows tree v.rows;
      reads = ap (λ t. normal (expand t)) (sym tree) ∙ v.normal ∙ ap Some read;
      values = subst IsValueTree read v.values;
    }

-- ---- every document

pub has_texts : (d : Document) → HoldsStrings d.nodes.items d.strings.items
has_texts d = all_had (Within d.strings.items) (Within-had d.strings.items) d.nodes.items d.within

-- the nodes tell the events of their tree
pub views_tree : (d : Document) → ViewsDocument d (events (tree_in d.nodes.items d.strings.items))
views_tree d = record {
  shows = record { same = once (List-set Event-set _ _) d.tells; within = has_texts d; total = d.total };
  ends = once (List-set (Option-set ℕ_set) _ _) d.ends;
}

pub document_holds : (d : Document) → HoldsDocument d (value (value_of d))
document_holds d = record {
  tree = tree_in d.nodes.items d.strings.items;
  read = value_of d;
  normal = once (Option-set Tree-set _ _) d.reads;
  values = IsValueTree-had (value_of d) d.values;
  rows = once (HasWholeRows-prop (tree_in d.nodes.items d.strings.items)) d.rows;
  views = views_tree d;
  same = refl;
}

-- it holds no other
pub document_value : (d : Document) (u : Tree) → HoldsDocument d (value u) → u ≡ value_of d
document_value d u h =
    let whole : value u ≡ value h.read = h.same in
    let same : u ≡ h.read = cc in
    same ∙ sym (value_known d.nodes.items d.strings.items h.tree h.read h.views.shows.same h.rows h.normal)

-- it is no deeper than there are nodes
pub document_shallow : (d : Document) (count : ℕ) → count ≡ length d.nodes.items → depth (value_of d) < count + 1
document_shallow d count is =
    let ns : List DocumentNode = d.nodes.items in
    let tree : Tree = tree_in ns d.strings.items in
    let reads : normal (expand tree) ≡ Some (value_of d) = once (Option-set Tree-set _ _) d.reads in
    omega (arith, is, read_deep tree (value_of d) reads, ap length (views_tree d).shows.same, length-map ns (event_of d.strings.items))
