-- What the first node of a value says of it.
use Rattle.std.proofs.Common.{◌≡◌, ◌≢◌, ◌<◌, ℤ, Bool, ℕ, ◌+◌, List, [], ◌∷◌, ◌++◌, Option, Some, None, refl, sym, ap, subst, ◌∙◌, Bor, option_map, true, false}
use Rattle.std.specs.Prelude.{IsUtf8, MatchOption}
use Rattle.std.proofs.lemmas.Option.{same_Some}
use Rattle.std.proofs.lemmas.List.{append-nil}
use Rattle.bser_format.specs.Tree.{Tree, null, boolean, integer, real, bytes, text, array, object, template, items}
use Rattle.bser_format.specs.Tree as trees
use Rattle.bser_format.specs.Expand.{expand, expand_items, expand_entries, expand_rows, expand_fields}
use Rattle.bser_format.specs.Content.{value}
use Rattle.bser_format.specs.Normal.{normal, normal_items, normal_entries, last_entries}
use Rattle.bser_format.proofs.Least.{map_some}
use Rattle.bser_events.specs.Events as told
use Rattle.bser_events.specs.Events.{Event, events}
use Rattle.bser_document.specs.declared.document.Document.{Document}
use Rattle.bser_document.specs.declared.document.DocumentNode.{DocumentNode}
use Rattle.bser_document.specs.declared.document.DocumentNode.TheVariants as nodes
use Rattle.bser_document.specs.declared.item.Item.{Item}
use Rattle.bser_document.specs.declared.item.Keys.{Keys}
use Rattle.bser_document.specs.declared.item.ItemKind.{ItemKind}
use Rattle.bser_document.specs.declared.item.ItemKind.TheVariants as kinds
use Rattle.bser_document.specs.DocumentView.{IsInside, Within, piece, HoldsDocument}
use Rattle.bser_document.proofs.Ends.{whole_ends}
use Rattle.bser_document.specs.Spans.{Lies, TreeLies, tree_ends}
use Rattle.bser_document.specs.Holds.{Part, tree, skipped, row_of, part_value, HoldsItem, IsPart, HasTexts, IsNodeAt, IsPartNode, ShowsNode, first_event, part_event, event_tree, node_tree, emptied, kind_of, is_null}
use Rattle.bser_value.specs.Contents.{as_f64, as_bytes, as_str}

abbrev pub Begins : Tree → Type 0
Begins t = (es : List Event) × (events t ≡ first_event t ∷ es)

pub begins : (t : Tree) → Begins t
begins null = ([], refl)
begins (boolean v) = ([], refl)
begins (integer v) = ([], refl)
begins (real v) = ([], refl)
begins (bytes s) = ([], refl)
begins (text s) = ([], refl)
begins (array ts) = (_, refl)
begins (object es) = (_, refl)
begins (template ks rs) = (_, refl)

-- what is read has the kind of what is spelled
read_as : (t u : Tree) → normal (expand t) ≡ Some u → event_tree (first_event t) ≡ emptied u
read_as null u e = ap emptied (same_Some null u e)
read_as (boolean v) u e = ap emptied (same_Some (boolean v) u e)
read_as (integer v) u e = ap emptied (same_Some (integer v) u e)
read_as (real v) u e = ap emptied (same_Some (real v) u e)
read_as (bytes s) u e = ap emptied (same_Some (bytes s) u e)
read_as (text s) u e = ap emptied (same_Some (text s) u e)
read_as (array ts) u e = map_some array (normal_items (expand_items ts)) u e λ x made same. ap emptied same
read_as (object es) u e = map_some (λ m. object (trees.entries_of (last_entries m))) (normal_entries (expand_entries es)) u e λ x made same. ap emptied same
read_as (template ks rs) u e = map_some array (normal_items (expand_rows ks rs)) u e λ x made same. ap emptied same

row_read_as : (ks : List (List ℕ)) (fs : trees.Fields) (u : Tree) → part_value (row_of ks fs) ≡ Some u → object trees.no_entries ≡ emptied u
row_read_as ks fs u e = map_some (λ m. object (trees.entries_of (last_entries m))) (normal_entries (expand_fields ks fs)) u e λ x made same. ap emptied same

-- ---- places

-- ---- the node of an item

-- the events of a value, where it begins
pub first_lies : (d : Document) (at : ℕ) (t : Tree) → TreeLies d t at → (es : List Event) × Lies d at (first_event t ∷ es) (tree_ends t at)
first_lies d at t h = let b = begins t in (b.0, subst (λ l. Lies d at l (tree_ends t at)) b.1 h)

-- the node of an item
pub plain_first : (i : Item) (n : DocumentNode) → i.keys ≡ None → IsNodeAt i.document.now i.at n → IsPartNode i n
plain_first i n none is (tree t) l = let f = first_lies i.document.now i.at t l.1 in is.0 (first_event t) f.0 (tree_ends t i.at) f.1
plain_first i n none is skipped l = is.0 told.skip [] (None ∷ []) l.1
plain_first i n none is (row_of ks fs) l = let e : None ≡ Some l.keys_at = sym none ∙ l.some in absurd cc

pub row_first : (i : Item) (k : Keys) (end : ℕ) → i.keys ≡ Some k → IsPartNode i (nodes.Object k.len end)
row_first i k end some (tree t) l = let e : None ≡ Some k = sym l.0 ∙ some in absurd cc
row_first i k end some skipped l = let e : None ≡ Some k = sym l.0 ∙ some in absurd cc
row_first i k end some (row_of ks fs) l =
    let e : Some l.keys_at ≡ Some k = sym l.some ∙ some in
    ap told.open_object (ap (λ k. k.len) (sym (same_Some l.keys_at k e)) ∙ l.shows.count)

-- what is read of a part has the kind of its first event
part_read_as : (p : Part) (u : Tree) → part_value p ≡ Some u → event_tree (part_event p) ≡ emptied u
part_read_as (tree t) u e = read_as t u e
part_read_as skipped u e = ap emptied (same_Some null u e)
part_read_as (row_of ks fs) u e = row_read_as ks fs u e

pub shown : (i : Item) (n : DocumentNode) → IsPartNode i n → (HasTexts i.document.now → Within i.document.now.strings.items n) → (u : Tree) → HoldsItem i u → ShowsNode u i.document.now n
shown i n first within u h = record {
  same = ap event_tree (first h.part h.lies) ∙ part_read_as h.part u h.value;
  within = within h.texts;
}

-- ---- answers

-- what is asked of a value without a look into containers
pub answered : {Z : Type 0} (f : Tree → Z) (d : Document) (n : DocumentNode) (r : Z) → ((t : Tree) → f (emptied t) ≡ f t) → ((s : List ℕ) → r ≡ f (node_tree s n)) → (u : Tree) → ShowsNode u d n → r ≡ f u
answered f d n r same is u h = is d.strings.items ∙ ap f h.same ∙ same u

-- a node that is none of the others shows null
pub null_shown : (s : List ℕ) (n : DocumentNode) → ((v : Bool) → n ≢ nodes.Bool v) → ((v : ℤ) → n ≢ nodes.Int v) → ((r : ℕ) → n ≢ nodes.Real r) → ((l a : ℕ) → n ≢ nodes.Bytes l a) → ((l a : ℕ) → n ≢ nodes.Text l a)
    → ((l e : ℕ) → n ≢ nodes.Array l e) → ((l e : ℕ) → n ≢ nodes.Object l e) → ((l e : ℕ) → n ≢ nodes.Template l e) → kinds.Null ≡ kind_of (node_tree s n)
null_shown s nodes.Null b i r y t a o m = refl
null_shown s (nodes.Bool v) b i r y t a o m = absurd (b v refl)
null_shown s (nodes.Int v) b i r y t a o m = absurd (i v refl)
null_shown s (nodes.Real v) b i r y t a o m = absurd (r v refl)
null_shown s (nodes.Bytes l p) b i r y t a o m = absurd (y l p refl)
null_shown s (nodes.Text l p) b i r y t a o m = absurd (t l p refl)
null_shown s (nodes.Key l p) b i r y t a o m = refl
null_shown s (nodes.Array l e) b i r y t a o m = absurd (a l e refl)
null_shown s (nodes.Object l e) b i r y t a o m = absurd (o l e refl)
null_shown s (nodes.Template l e) b i r y t a o m = absurd (m l e refl)
null_shown s (nodes.Rows l) b i r y t a o m = refl
null_shown s nodes.Skip b i r y t a o m = refl
null_shown s nodes.Close b i r y t a o m = refl

-- a node that is no number has no float
pub no_float : (s : List ℕ) (n : DocumentNode) → ((v : ℤ) → n ≢ nodes.Int v) → ((r : ℕ) → n ≢ nodes.Real r) → None ≡ as_f64 (node_tree s n)
no_float s nodes.Null i r = refl
no_float s (nodes.Bool v) i r = refl
no_float s (nodes.Int v) i r = absurd (i v refl)
no_float s (nodes.Real v) i r = absurd (r v refl)
no_float s (nodes.Bytes l p) i r = refl
no_float s (nodes.Text l p) i r = refl
no_float s (nodes.Key l p) i r = refl
no_float s (nodes.Array l e) i r = refl
no_float s (nodes.Object l e) i r = refl
no_float s (nodes.Template l e) i r = refl
no_float s (nodes.Rows l) i r = refl
no_float s nodes.Skip i r = refl
no_float s nodes.Close i r = refl

pub kind_of_emptied : (t : Tree) → kind_of (emptied t) ≡ kind_of t
kind_of_emptied null = refl
kind_of_emptied (boolean v) = refl
kind_of_emptied (integer v) = refl
kind_of_emptied (real v) = refl
kind_of_emptied (bytes s) = refl
kind_of_emptied (text s) = refl
kind_of_emptied (array ts) = refl
kind_of_emptied (object es) = refl
kind_of_emptied (template ks rs) = refl

-- a node that shows a value of a kind is of it
pub kind_shown : (d : Document) (n : DocumentNode) (k : ItemKind) → ((s : List ℕ) → k ≡ kind_of (node_tree s n)) → (u : Tree) → ShowsNode u d n → k ≡ kind_of u
kind_shown d n k is u h = answered kind_of d n k kind_of_emptied is u h

-- null is the only value of its kind
pub null_kind : (u : Tree) → kind_of u ≡ kinds.Null → true ≡ is_null u
null_kind null e = refl
null_kind (boolean v) e = absurd cc
null_kind (integer v) e = absurd cc
null_kind (real v) e = absurd cc
null_kind (bytes s) e = absurd cc
null_kind (text s) e = absurd cc
null_kind (array ts) e = absurd cc
null_kind (object es) e = absurd cc
null_kind (template ks rs) e = absurd cc

pub other_kind : (u : Tree) → (kind_of u ≡ kinds.Null → ⊥) → false ≡ is_null u
other_kind null never = absurd (never refl)
other_kind (boolean v) never = refl
other_kind (integer v) never = refl
other_kind (real v) never = refl
other_kind (bytes s) never = refl
other_kind (text s) never = refl
other_kind (array ts) never = refl
other_kind (object es) never = refl
other_kind (template ks rs) never = refl

pub as_f64_emptied : (t : Tree) → as_f64 (emptied t) ≡ as_f64 t
as_f64_emptied null = refl
as_f64_emptied (boolean v) = refl
as_f64_emptied (integer v) = refl
as_f64_emptied (real v) = refl
as_f64_emptied (bytes s) = refl
as_f64_emptied (text s) = refl
as_f64_emptied (array ts) = refl
as_f64_emptied (object es) = refl
as_f64_emptied (template ks rs) = refl

pub as_bytes_emptied : (t : Tree) → as_bytes (emptied t) ≡ as_bytes t
as_bytes_emptied null = refl
as_bytes_emptied (boolean v) = refl
as_bytes_emptied (integer v) = refl
as_bytes_emptied (real v) = refl
as_bytes_emptied (bytes s) = refl
as_bytes_emptied (text s) = refl
as_bytes_emptied (array ts) = refl
as_bytes_emptied (object es) = refl
as_bytes_emptied (template ks rs) = refl

pub as_str_emptied : (t : Tree) → as_str (emptied t) ≡ as_str t
as_str_emptied null = refl
as_str_emptied (boolean v) = refl
as_str_emptied (integer v) = refl
as_str_emptied (real v) = refl
as_str_emptied (bytes s) = refl
as_str_emptied (text s) = refl
as_str_emptied (array ts) = refl
as_str_emptied (object es) = refl
as_str_emptied (template ks rs) = refl

-- ---- strings

-- the string of a node that is no text, and no byte string
no_text : (s : List ℕ) (n : DocumentNode) → ((l a : ℕ) → n ≡ nodes.Text l a → ⊥) → None ≡ as_str (node_tree s n)
no_text s nodes.Null h = refl
no_text s (nodes.Bool v) h = refl
no_text s (nodes.Int v) h = refl
no_text s (nodes.Real v) h = refl
no_text s (nodes.Bytes l a) h = refl
no_text s (nodes.Text l a) h = absurd (h l a refl)
no_text s (nodes.Key l a) h = refl
no_text s (nodes.Array l a) h = refl
no_text s (nodes.Object l a) h = refl
no_text s (nodes.Template l a) h = refl
no_text s (nodes.Rows l) h = refl
no_text s nodes.Skip h = refl
no_text s nodes.Close h = refl

no_bytes : (s : List ℕ) (n : DocumentNode) → ((l a : ℕ) → n ≡ nodes.Bytes l a → ⊥) → ((l a : ℕ) → n ≡ nodes.Text l a → ⊥) → None ≡ as_bytes (node_tree s n)
no_bytes s nodes.Null h g = refl
no_bytes s (nodes.Bool v) h g = refl
no_bytes s (nodes.Int v) h g = refl
no_bytes s (nodes.Real v) h g = refl
no_bytes s (nodes.Bytes l a) h g = absurd (h l a refl)
no_bytes s (nodes.Text l a) h g = absurd (g l a refl)
no_bytes s (nodes.Key l a) h g = refl
no_bytes s (nodes.Array l a) h g = refl
no_bytes s (nodes.Object l a) h g = refl
no_bytes s (nodes.Template l a) h g = refl
no_bytes s (nodes.Rows l) h g = refl
no_bytes s nodes.Skip h g = refl
no_bytes s nodes.Close h g = refl

-- the same where an item has the node
pub no_text_there : (d : Document) (n : DocumentNode) → ((l a : ℕ) → n ≡ nodes.Text l a → ⊥) → (u : Tree) → ShowsNode u d n → None ≡ as_str u
no_text_there d n never u h = no_text d.strings.items n never ∙ ap as_str h.same ∙ as_str_emptied u

pub no_bytes_there : (d : Document) (n : DocumentNode) → ((l a : ℕ) → n ≡ nodes.Bytes l a → ⊥) → ((l a : ℕ) → n ≡ nodes.Text l a → ⊥) → (u : Tree) → ShowsNode u d n → None ≡ as_bytes u
no_bytes_there d n never neither u h = no_bytes d.strings.items n never neither ∙ ap as_bytes h.same ∙ as_bytes_emptied u

-- the bytes of a byte string, and of a text
pub bytes_there : (d : Document) (n : DocumentNode) (l a : ℕ) (r : List ℕ) → n ≡ nodes.Bytes l a → (IsInside d.strings.items l a → r ≡ piece d.strings.items l a) → (u : Tree) → ShowsNode u d n → Some r ≡ as_bytes u
bytes_there d n l a r is same u h =
    let w : Within d.strings.items (nodes.Bytes l a) = subst (Within d.strings.items) is h.within in
    ap Some (same w) ∙ ap (λ m. as_bytes (node_tree d.strings.items m)) (sym is) ∙ ap as_bytes h.same ∙ as_bytes_emptied u

pub text_bytes_there : (d : Document) (n : DocumentNode) (l a : ℕ) (r : List ℕ) → n ≡ nodes.Text l a → (IsInside d.strings.items l a → r ≡ piece d.strings.items l a) → (u : Tree) → ShowsNode u d n → Some r ≡ as_bytes u
text_bytes_there d n l a r is same u h =
    let w : Within d.strings.items (nodes.Text l a) = subst (Within d.strings.items) is h.within in
    ap Some (same w.0) ∙ ap (λ m. as_bytes (node_tree d.strings.items m)) (sym is) ∙ ap as_bytes h.same ∙ as_bytes_emptied u

-- a text, whose bytes are UTF-8
pub text_there : (d : Document) (n : DocumentNode) (l a : ℕ) (b : List ℕ) (r : Option (Bor (List ℕ))) → n ≡ nodes.Text l a → (IsInside d.strings.items l a → b ≡ piece d.strings.items l a)
    → MatchOption r (¬ (IsUtf8 b)) (λ t. (t.now ≡ b) × IsUtf8 b) → (u : Tree) → ShowsNode u d n → option_map (λ t. t.now) r ≡ as_str u
text_there d n l a b r is same found u h =
    let w : Within d.strings.items (nodes.Text l a) = subst (Within d.strings.items) is h.within in
    of_found r found (subst IsUtf8 (sym (same w.0)) w.1) ∙ ap Some (same w.0) ∙ ap (λ m. as_str (node_tree d.strings.items m)) (sym is) ∙ ap as_str h.same ∙ as_str_emptied u
  where
    of_found : (r : Option (Bor (List ℕ))) → MatchOption r (¬ (IsUtf8 b)) (λ t. (t.now ≡ b) × IsUtf8 b) → IsUtf8 b → option_map (λ t. t.now) r ≡ Some b
    of_found None f utf8 = absurd (f utf8)
    of_found (Some t) f utf8 = ap Some f.0

-- ---- the whole document

pub root_holds : (d : Document) (u : Tree) → HoldsDocument d (value u) → IsPart d None 0 u
root_holds d u h =
    let whole : value u ≡ value h.read = h.same in
    let same : u ≡ h.read = cc in
    record {
      part = tree h.tree;
      lies = (
        refl,
        record {
          after = [];
          here = h.views.shows.same ∙ sym (append-nil (events h.tree));
          behind = [];
          ends = h.views.ends ∙ whole_ends h.tree ∙ sym (append-nil (tree_ends h.tree 0));
        },
      );
      value = h.normal ∙ ap Some (sym same);
      whole = h.rows;
      texts = h.views.shows.within;
    }
