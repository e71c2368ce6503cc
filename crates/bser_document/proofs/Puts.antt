-- Putting an item, part by part.
use Rattle.std.proofs.Common.{◌≡◌, ℕ, ◌-◌, ◌<◌, ◌^◌, List, [], ◌∷◌, length, Result, Ok, refl, sym, ap, subst, ◌∙◌, arith, suc, append-nil, Some, None, Bor}
use Rattle.bser_format.specs.Tree.{Tree, null, boolean, integer, real, bytes, text, array, object, template, no_items, item, items, no_entries, entry, entries, entries_of}
use Rattle.bser_format.specs.Tree as trees
use Rattle.bser_format.specs.Canonical.{canonical_key, IsCount, IsWritable}
use Rattle.bser_format.specs.Measures.{depth, items_depth, entries_depth}
use Rattle.bser_format.specs.Pieces.{array_head, object_head}
use Rattle.bser_format.specs.Written.{item_before, entry_before, written_items, written_entries, array_tree, object_tree, plain_bytes, map_ok}
use Rattle.bser_format.specs.declared.errors.Error.{Error}
use Rattle.bser_format.specs.declared.errors.Error.TheVariants.{OutOfMemory}
use Rattle.bser_ser.specs.Ends.{Ends, Stops, text_of, CanBeWritten}
use Rattle.bser_ser.specs.Sent.{Sent, Refused, IsExcuse}
use Rattle.bser_ser.specs.Stopped.{Tells}
use Rattle.bser_ser.specs.declared.serializer.Serializer.{Serializer}
use Rattle.bser_ser.proofs.Sends.{Joins}
use Rattle.bser_ser.proofs.Ends.{Ends-both, Stops-second, Stops-none}
use Rattle.bser_ser.proofs.Texts.{ItemsPut, items_start, items_more, items_put, items_writable, items_stop, EntriesPut, entries_start, entries_more, entries_put, entries_writable, entries_stop, entry_text}
use Rattle.bser_value.specs.Contents.{as_array, as_object}
use Rattle.bser_document.specs.declared.document.Document.{Document}
use Rattle.bser_document.specs.declared.document.DocumentNode.{DocumentNode}
use Rattle.bser_document.specs.declared.document.DocumentNode.TheVariants as nodes
use Rattle.bser_document.specs.declared.item.Item.{Item}
use Rattle.bser_document.specs.declared.items.Items.{Items}
use Rattle.bser_document.specs.Holds.{HoldsItem, ShowsNode, emptied, node_tree}
use Rattle.bser_document.specs.declared.put.AddError.{AddError}
use Rattle.bser_format.specs.Normal.{last_entries}
use Rattle.bser_document.specs.declared.entries.Entries.{Entries}
use Rattle.bser_document.specs.Pairs.{HoldsEntries, FindsEntries}
use Rattle.bser_document.proofs.Sorts.{entries_back}
use Rattle.bser_document.specs.Put.{AddsItem, IsPlain}
use Rattle.bser_document.specs.Sorted.{Lists}
use Rattle.bser_document.specs.Walks.{HoldsItems, FindsItems, GivesItem, length_of}

-- ---- values that are no containers

plain_inside : (u : Tree) → IsPlain (emptied u) → IsPlain u
plain_inside null h = tt
plain_inside (boolean v) h = tt
plain_inside (integer v) h = tt
plain_inside (real v) h = tt
plain_inside (bytes s) h = tt
plain_inside (text s) h = tt
plain_inside (array ts) h = h
plain_inside (object es) h = h
plain_inside (template ks rs) h = h

plain_node : (s : List ℕ) (n : DocumentNode) → ((l e : ℕ) → n ≡ nodes.Array l e → ⊥) → ((l e : ℕ) → n ≡ nodes.Object l e → ⊥) → ((l e : ℕ) → n ≡ nodes.Template l e → ⊥) → IsPlain (node_tree s n)
plain_node s nodes.Null f g h = tt
plain_node s (nodes.Bool v) f g h = tt
plain_node s (nodes.Int v) f g h = tt
plain_node s (nodes.Real v) f g h = tt
plain_node s (nodes.Bytes l a) f g h = tt
plain_node s (nodes.Text l a) f g h = tt
plain_node s (nodes.Key l a) f g h = tt
plain_node s (nodes.Array l e) f g h = f l e refl
plain_node s (nodes.Object l e) f g h = g l e refl
plain_node s (nodes.Template l e) f g h = h l e refl
plain_node s (nodes.Rows l) f g h = tt
plain_node s nodes.Skip f g h = tt
plain_node s nodes.Close f g h = tt

pub plain_shown : (d : Document) (n : DocumentNode) → ((l e : ℕ) → n ≡ nodes.Array l e → ⊥) → ((l e : ℕ) → n ≡ nodes.Object l e → ⊥) → ((l e : ℕ) → n ≡ nodes.Template l e → ⊥) → (u : Tree) → ShowsNode u d n → IsPlain u
plain_shown d n f g h u shows = plain_inside u (subst IsPlain shows.same (plain_node d.strings.items n f g h))

-- ---- nothing is put

-- out of memory before anything was put
pub none_put : {S : Type 0} (sink : Tells S) → ((s : S) → sink.took s s []) → (u : Tree) (a : Serializer S) → Stops sink (text_of (Ok u)) a a OutOfMemory
none_put sink none u a = Stops-none sink (text_of (Ok u)) a a OutOfMemory (record { taken = []; took_it = none a.writer; grew = append-nil a.pending.items; why = refl }) tt

-- ---- containers

pub array_added : {S A : Type 0} (sink : Tells S) (room : ℕ) (s : Items) (a b : Serializer S) (r : Result A AddError) (u : Tree) → FindsItems (as_array u) (Some s) → depth u < room → ((us : trees.Items) → HoldsItems s us → items_depth us < room - 1 → AddsItem sink a b (array us) r) → AddsItem sink a b u r
array_added sink room s a b r null h deep added = absurd h
array_added sink room s a b r (boolean v) h deep added = absurd h
array_added sink room s a b r (integer v) h deep added = absurd h
array_added sink room s a b r (real v) h deep added = absurd h
array_added sink room s a b r (bytes l) h deep added = absurd h
array_added sink room s a b r (text l) h deep added = absurd h
array_added sink room s a b r (array us) h deep added = added us h (omega (arith, deep))
array_added sink room s a b r (object es) h deep added = absurd h
array_added sink room s a b r (template ks rs) h deep added = absurd h

-- an object, where what it is read from is put
pub object_added : {S A : Type 0} (sink : Tells S) (room : ℕ) (s : Entries) (a b : Serializer S) (r : Result A AddError) (u : Tree) → FindsEntries (as_object u) (Some s) → depth u < room
    → ((m : List (List ℕ × Tree)) → HoldsEntries s m → entries_depth (entries_of (last_entries m)) < room - 1 → AddsItem sink a b (object (entries_of (last_entries m))) r) → AddsItem sink a b u r
object_added sink room s a b r null h deep added = absurd h
object_added sink room s a b r (boolean v) h deep added = absurd h
object_added sink room s a b r (integer v) h deep added = absurd h
object_added sink room s a b r (real v) h deep added = absurd h
object_added sink room s a b r (bytes l) h deep added = absurd h
object_added sink room s a b r (text l) h deep added = absurd h
object_added sink room s a b r (array us) h deep added = absurd h
object_added sink room s a b r (object es) h deep added =
    let less : entries_depth es < room - 1 = omega (arith, deep) in
    subst (λ es. AddsItem sink a b (object es) r) (sym h.same) (added h.spelled h.holds (subst (λ es. entries_depth es < room - 1) h.same less))
object_added sink room s a b r (template ks rs) h deep added = absurd h

-- entries that rise are put as they are spelled
pub spelled_added : {S A : Type 0} (sink : Tells S) (room : ℕ) (a b : Serializer S) (r : Result A AddError) (m : List (List ℕ × Tree)) → last_entries m ≡ m → entries_depth (entries_of (last_entries m)) < room
    → (entries_depth (entries_of m) < room → AddsItem sink a b (object (entries_of m)) r) → AddsItem sink a b (object (entries_of (last_entries m))) r
spelled_added sink room a b r m same deep added =
    subst (λ l. AddsItem sink a b (object (entries_of l)) r) (sym same) (added (subst (λ l. entries_depth (entries_of l) < room) same deep))

-- and others in order
pub sorted_added : {S A : Type 0} (sink : Tells S) (room : ℕ) (es : List (Bor (List ℕ) × Item)) (a b : Serializer S) (r : Result A AddError) (m : List (List ℕ × Tree)) → Lists (last_entries m) es → entries_depth (entries_of (last_entries m)) < room
    → ((es' : trees.Entries) → Lists (entries es') es → entries_depth es' < room → AddsItem sink a b (object es') r) → AddsItem sink a b (object (entries_of (last_entries m))) r
sorted_added sink room es a b r m lists deep added = added (entries_of (last_entries m)) (subst (λ l. Lists l es) (sym (entries_back (last_entries m))) lists) deep

-- ---- the trees of items and of entries

abbrev pub whole : Tree → Result Tree Error
whole t = Ok t

items_whole : (us : trees.Items) → written_items whole (items us) ≡ Ok us
items_whole no_items = refl
items_whole (item t us) = ap (item_before (Ok t)) (items_whole us)

entries_whole : (es : trees.Entries) → written_entries plain_bytes whole (entries es) ≡ Ok es
entries_whole no_entries = refl
entries_whole (entry k t es) = ap (entry_before k (Ok t)) (entries_whole es)

pub array_whole : (us : trees.Items) → array_tree whole (items us) ≡ Ok (array us)
array_whole us = ap (map_ok array) (items_whole us)

object_whole : (es : trees.Entries) → object_tree plain_bytes whole (entries es) ≡ Ok (object es)
object_whole es = ap (map_ok object) (entries_whole es)

-- ---- the items of an array

-- the items before these are put
pub record PuttingItems {S : Type 0} (sink : Tells S) (us : trees.Items) (room : ℕ) (rest : Items) (a b : Serializer S) : Type 0 where
  pub left : trees.Items
  pub holds : HoldsItems rest left
  pub shallow : items_depth left < room
  pub put : ItemsPut sink whole (items us) (items left) a b

module _ {S : Type 0} (sink : Tells S) (us : trees.Items) (room : ℕ) where
  pub items_begun : (s rest : Items) (count : ℕ) (a b : Serializer S) → HoldsItems s us → items_depth us < room → rest ≡ s → count ≡ length_of us → Sent sink a b (array_head count) → PuttingItems sink us room rest a b
  items_begun s rest count a b h deep same is sent = record { left = us; holds = subst (λ s. HoldsItems s us) (sym same) h; shallow = deep; put = items_start refl (subst (λ n. Sent sink a b (array_head n)) is sent) }

module _ {S : Type 0} (sink : Tells S) (both : Joins sink) (us : trees.Items) (room : ℕ) where
  pub item_more : (rest next : Items) (i : Item) (a b c : Serializer S) → ((us : trees.Items) → HoldsItems rest us → GivesItem us (Some i) next) → ((u : Tree) → HoldsItem i u → depth u < room → Ends sink (text_of (Ok u)) b c × IsWritable u)
      → PuttingItems sink us room rest a b → PuttingItems sink us room next a c
  item_more rest next i a b c gives added h = of_left h.left h.holds h.shallow h.put
    where
      of_left : (l : trees.Items) → HoldsItems rest l → items_depth l < room → ItemsPut sink whole (items us) (items l) a b → PuttingItems sink us room next a c
      of_left no_items holds deep put = absurd (gives no_items holds)
      of_left (item u l) holds deep put =
          let g = gives (item u l) holds in
          let e = added u g.0 (omega (arith, deep)) in
          record { left = l; holds = g.1; shallow = omega (arith, deep); put = items_more both put refl e.0 e.1 }

module _ {S : Type 0} (sink : Tells S) (both : Joins sink) (us : trees.Items) (room : ℕ) where
  pub item_stops : (rest next : Items) (i : Item) (a b c : Serializer S) (e : Error) → ((us : trees.Items) → HoldsItems rest us → GivesItem us (Some i) next) → ((u : Tree) → HoldsItem i u → depth u < room → Stops sink (text_of (Ok u)) b c e)
      → PuttingItems sink us room rest a b → Stops sink (text_of (Ok (array us))) a c e
  item_stops rest next i a b c e gives added h = of_left h.left h.holds h.shallow h.put
    where
      of_left : (l : trees.Items) → HoldsItems rest l → items_depth l < room → ItemsPut sink whole (items us) (items l) a b → Stops sink (text_of (Ok (array us))) a c e
      of_left no_items holds deep put = absurd (gives no_items holds)
      of_left (item u l) holds deep put =
          let g = gives (item u l) holds in
          subst (λ (m : Result Tree Error). Stops sink (text_of m) a c e) (array_whole us) (items_stop c e both put refl (added u g.0 (omega (arith, deep))))

module _ {S : Type 0} (sink : Tells S) (us : trees.Items) (room : ℕ) where
  pub items_all : (rest next : Items) (a b : Serializer S) → ((us : trees.Items) → HoldsItems rest us → GivesItem us None next) → length_of us < 2 ^ 63
      → PuttingItems sink us room rest a b → Ends sink (text_of (Ok (array us))) a b × IsWritable (array us)
  items_all rest next a b gives few h = of_left h.left h.holds h.put
    where
      of_left : (l : trees.Items) → HoldsItems rest l → ItemsPut sink whole (items us) (items l) a b → Ends sink (text_of (Ok (array us))) a b × IsWritable (array us)
      of_left no_items holds put = (
        subst (λ (m : Result Tree Error). Ends sink (text_of m) a b) (array_whole us) (items_put put refl),
        subst CanBeWritten (array_whole us) (items_writable put refl few),
      )
      of_left (item u l) holds put = absurd (gives (item u l) holds)

-- ---- the entries of an object

-- the entries before these are put
pub record PuttingEntries {S : Type 0} (sink : Tells S) (es : trees.Entries) (room : ℕ) (rest : List (Bor (List ℕ) × Item)) (a b : Serializer S) : Type 0 where
  pub left : trees.Entries
  pub lists : Lists (entries left) rest
  pub shallow : entries_depth left < room
  pub put : EntriesPut sink plain_bytes whole (entries es) (entries left) a b

pub lists_length : (m : List (List ℕ × Tree)) (es : List (Bor (List ℕ) × Item)) → Lists m es → length es ≡ length m
lists_length [] [] h = refl
lists_length [] (x ∷ es) h = absurd h
lists_length (p ∷ m) [] h = absurd h
lists_length (p ∷ m) (x ∷ es) h = ap suc (lists_length m es h.1)

module _ {S : Type 0} (sink : Tells S) (es : trees.Entries) (room : ℕ) where
  pub entries_begun : (all rest : List (Bor (List ℕ) × Item)) (count : ℕ) (a b : Serializer S) → Lists (entries es) all → entries_depth es < room → rest ≡ all → count ≡ length all → Sent sink a b (object_head count) → PuttingEntries sink es room rest a b
  entries_begun all rest count a b h deep same is sent = record {
    left = es;
    lists = subst (Lists (entries es)) (sym same) h;
    shallow = deep;
    put = entries_start refl (subst (λ n. Sent sink a b (object_head n)) (is ∙ lists_length (entries es) all h) sent);
  }

module _ {S : Type 0} (sink : Tells S) (both : Joins sink) (es : trees.Entries) (room : ℕ) where
  pub entry_more : (rest next : List (Bor (List ℕ) × Item)) (x : Bor (List ℕ) × Item) (a b m c : Serializer S) → rest ≡ x ∷ next → IsCount (length x.0.now) → Sent sink b m (canonical_key x.0.now)
      → ((u : Tree) → HoldsItem x.1 u → depth u < room → Ends sink (text_of (Ok u)) m c × IsWritable u) → PuttingEntries sink es room rest a b → PuttingEntries sink es room next a c
  entry_more rest next x a b m c steps short key added h = of_left h.left (subst (Lists (entries h.left)) steps h.lists) h.shallow h.put
    where
      of_left : (l : trees.Entries) → Lists (entries l) (x ∷ next) → entries_depth l < room → EntriesPut sink plain_bytes whole (entries es) (entries l) a b → PuttingEntries sink es room next a c
      of_left no_entries lists deep put = absurd lists
      of_left (entry k u l) lists deep put =
          let e = added u lists.0.1 (omega (arith, deep)) in
          let named : Sent sink b m (canonical_key k) = subst (λ k. Sent sink b m (canonical_key k)) lists.0.0 key in
          record {
            left = l;
            lists = lists.1;
            shallow = omega (arith, deep);
            put = entries_more both put refl (Ends-both sink both (Ok (canonical_key k)) (text_of (Ok u)) b m c named e.0) (subst (λ k. IsCount (length k)) lists.0.0 short, e.1);
          }

module _ {S : Type 0} (sink : Tells S) (both : Joins sink) (es : trees.Entries) (room : ℕ) where
  pub entry_stops : (rest next : List (Bor (List ℕ) × Item)) (x : Bor (List ℕ) × Item) (a b m c : Serializer S) (e : Error) → rest ≡ x ∷ next → Sent sink b m (canonical_key x.0.now)
      → ((u : Tree) → HoldsItem x.1 u → depth u < room → Stops sink (text_of (Ok u)) m c e) → PuttingEntries sink es room rest a b → Stops sink (text_of (Ok (object es))) a c e
  entry_stops rest next x a b m c e steps key added h = of_left h.left (subst (Lists (entries h.left)) steps h.lists) h.shallow h.put
    where
      of_left : (l : trees.Entries) → Lists (entries l) (x ∷ next) → entries_depth l < room → EntriesPut sink plain_bytes whole (entries es) (entries l) a b → Stops sink (text_of (Ok (object es))) a c e
      of_left no_entries lists deep put = absurd lists
      of_left (entry k u l) lists deep put =
          let named : Sent sink b m (canonical_key k) = subst (λ k. Sent sink b m (canonical_key k)) lists.0.0 key in
          subst (λ (m : Result Tree Error). Stops sink (text_of m) a c e) (object_whole es)
          (entries_stop c e both put refl (Stops-second sink both (Ok (canonical_key k)) (text_of (Ok u)) b m c e named (added u lists.0.1 (omega (arith, deep)))))

module _ {S : Type 0} (sink : Tells S) (both : Joins sink) (es : trees.Entries) (room : ℕ) where
  pub key_stops : (rest next : List (Bor (List ℕ) × Item)) (x : Bor (List ℕ) × Item) (a b c : Serializer S) (e : Error) → rest ≡ x ∷ next → Refused sink b c [] e → IsExcuse e → PuttingEntries sink es room rest a b → Stops sink (text_of (Ok (object es))) a c e
  key_stops rest next x a b c e steps refused excuse h = of_left h.left (subst (Lists (entries h.left)) steps h.lists) h.put
    where
      of_left : (l : trees.Entries) → Lists (entries l) (x ∷ next) → EntriesPut sink plain_bytes whole (entries es) (entries l) a b → Stops sink (text_of (Ok (object es))) a c e
      of_left no_entries lists put = absurd lists
      of_left (entry k u l) lists put =
          subst (λ (m : Result Tree Error). Stops sink (text_of m) a c e) (object_whole es)
          (entries_stop c e both put refl (Stops-none sink (entry_text plain_bytes whole (k, u)) b c e refused excuse))

module _ {S : Type 0} (sink : Tells S) (es : trees.Entries) (room : ℕ) where
  pub entries_all : (rest : List (Bor (List ℕ) × Item)) (a b : Serializer S) → rest ≡ [] → length (entries es) < 2 ^ 63 → PuttingEntries sink es room rest a b → Ends sink (text_of (Ok (object es))) a b × IsWritable (object es)
  entries_all rest a b none few h = of_left h.left (subst (Lists (entries h.left)) none h.lists) h.put
    where
      of_left : (l : trees.Entries) → Lists (entries l) [] → EntriesPut sink plain_bytes whole (entries es) (entries l) a b → Ends sink (text_of (Ok (object es))) a b × IsWritable (object es)
      of_left no_entries lists put = (
        subst (λ (m : Result Tree Error). Ends sink (text_of m) a b) (object_whole es) (entries_put put refl),
        subst CanBeWritten (object_whole es) (entries_writable put refl few),
      )
      of_left (entry k u l) lists put = absurd lists
