-- The value of a part is told by the document alone.
use Rattle.std.proofs.Common.{◌≡◌, ℕ, List, [], ◌∷◌, ◌++◌, length, map, take, drop, Option, Some, None, refl, sym, ap, subst, ◌∙◌}
use Rattle.std.specs.Prelude.{unwrap_or}
use Rattle.std.proofs.lemmas.List.{drop_at}
use Rattle.std.proofs.lemmas.Option.{same_Some}
use mathlib.Core.Logic.{∥∥₁_map}
use Rattle.bser_format.specs.Tree.{Tree, null, Fields, fields}
use Rattle.bser_events.specs.Events as told
use Rattle.bser_events.specs.Events.{Event, events, key_events, field_events}
use Rattle.bser_deserializer.specs.WholeRows.{HasWholeRows, FieldsHaveWholeRows}
use Rattle.bser_document.specs.declared.document.Document.{Document}
use Rattle.bser_document.specs.declared.item.Keys.{Keys}
use Rattle.bser_document.specs.DocumentView.{event_of, end_of}
use Rattle.bser_document.specs.Spelled.{Member, Frames, keys_among, fields_from, tell_back, untold, first_value}
use Rattle.bser_document.specs.Spans.{Lies, tree_ends, fields_ends, keys_ends, KeysLie, FieldsLie, TreeLies}
use Rattle.bser_document.specs.Parts.{Part, tree, skipped, row_of, part_value, PartIsWhole, PartLies, RowLies, ShowsKeys, IsPart, IsRowIfKeyed, members_at, part_at, part_read}
use Rattle.bser_document.proofs.Spelled.{tree_back, keys_back, fields_back, back_append, fields_found, key_members}
use Rattle.bser_document.proofs.Whole.{has_texts}
use Rattle.bser_document.proofs.Facts.{Tree-set, Event-set, List-set, Option-set, ℕ_set, fields_rows-prop, once, Had}

-- ---- what stands at a place

-- behind what lies there
pub members_lie : (d : Document) (at : ℕ) (es : List Event) (xs : List (Option ℕ)) (h : Lies d at es xs) → members_at d at ≡ (tell_back es (tell_back h.after untold)).inner
members_lie d at es xs h = ap (λ l. (tell_back l untold).inner) h.here ∙ ap (λ f. f.inner) (back_append es h.after untold)

-- the tree that lies there
pub tree_there : (d : Document) (at : ℕ) (t : Tree) → HasWholeRows t → TreeLies d t at → first_value (members_at d at) ≡ t
tree_there d at t w h =
    ap first_value (members_lie d at (events t) (tree_ends t at) h ∙ ap (λ f. f.inner) (tree_back t w (tell_back h.after untold)))

keys_first : (ks : List (List ℕ)) (ms : List Member) → take (length ks) (keys_among (key_members ks ms)) ≡ ks
keys_first [] ms = refl
keys_first (k ∷ ks) ms = ap (λ l. k ∷ l) (keys_first ks ms)

pub keys_there : (d : Document) (k : Keys) (ks : List (List ℕ)) → ShowsKeys d k ks → take k.len (keys_among (members_at d k.at)) ≡ ks
keys_there d k ks h =
    let s : Frames = tell_back h.lie.after untold in
    ap (λ n. take n (keys_among (members_at d k.at))) h.count
    ∙ ap (λ ms. take (length ks) (keys_among ms)) (members_lie d k.at (key_events ks) (keys_ends ks k.at) h.lie ∙ ap (λ f. f.inner) (keys_back ks s))
    ∙ keys_first ks s.inner

pub fields_there : (d : Document) (at n : ℕ) (fs : Fields) → n ≡ length (fields fs) → FieldsHaveWholeRows fs → FieldsLie d fs at → fields_from n (members_at d at) ≡ fs
fields_there d at n fs long w h =
    let s : Frames = tell_back h.after untold in
    ap (λ n. fields_from n (members_at d at)) long
    ∙ ap (fields_from (length (fields fs))) (members_lie d at (field_events fs) (fields_ends fs at) h ∙ ap (λ f. f.inner) (fields_back fs w s))
    ∙ fields_found fs s.inner

-- ---- the part that begins there

read_is : (p : Part) (u : Tree) → part_value p ≡ Some u → unwrap_or (part_value p) null ≡ u
read_is p u v = ap (λ o. unwrap_or o null) v

row_there : (d : Document) (k : Keys) (at : ℕ) (ks : List (List ℕ)) (fs : Fields) → FieldsHaveWholeRows fs → RowLies d (Some k) at ks fs → part_at d (Some k) at ≡ row_of ks fs
row_there d k at ks fs w l =
    let same : k ≡ l.keys_at = same_Some k l.keys_at l.some in
    let shows : ShowsKeys d k ks = subst (λ k. ShowsKeys d k ks) (sym same) l.shows in
    ap (λ x. row_of x (fields_from k.len (members_at d at))) (keys_there d k ks shows)
    ∙ ap (row_of ks) (fields_there d at k.len fs (shows.count ∙ sym l.count) w l.lie)

-- it is no other value
pub part_is : (d : Document) (keys : Option Keys) (at : ℕ) (u : Tree) → IsPart d keys at u → u ≡ part_read d keys at
part_is d keys at u h = sym (of_part keys h.part h.lies h.value h.whole)
  where
    of_part : (keys : Option Keys) (p : Part) → PartLies d keys at p → part_value p ≡ Some u → PartIsWhole p → part_read d keys at ≡ u
    of_part None (tree t) l v w = ap (λ t. unwrap_or (part_value (tree t)) null) (tree_there d at t w l.1) ∙ read_is (tree t) u v
    of_part None skipped l v w = ap (λ ms. unwrap_or (part_value (tree (first_value ms))) null) (members_lie d at (told.skip ∷ []) (None ∷ []) l.1) ∙ read_is skipped u v
    of_part None (row_of ks fs) l v w = let e = l.some in absurd cc
    of_part (Some k) (tree t) l v w = let e = l.0 in absurd cc
    of_part (Some k) skipped l v w = let e = l.0 in absurd cc
    of_part (Some k) (row_of ks fs) l v w = ap (λ p. unwrap_or (part_value p) null) (row_there d k at ks fs w l) ∙ read_is (row_of ks fs) u v

-- ---- a row that is known is had

had_map : {P Q : Type 0} → ∥ P ∥₁ → (P → Q) → Had Q → Q
had_map h f had = had (∥∥₁_map h f)

lies_had : (d : Document) (at : ℕ) (es : List Event) (xs : List (Option ℕ)) → Had (Lies d at es xs)
lies_had d at es xs h =
    let events_there : List Event = map (event_of d.strings.items) (drop at d.nodes.items) in
    let ends_there : List (Option ℕ) = map end_of (drop at d.nodes.items) in
    record {
      after = drop (length es) events_there;
      here = had_map h (λ l. l.here ∙ ap (λ x. es ++ x) (sym (drop_at es l.after (length es) refl) ∙ ap (drop (length es)) (sym l.here))) (once (List-set Event-set _ _));
      behind = drop (length xs) ends_there;
      ends = had_map h (λ l. l.ends ∙ ap (λ x. xs ++ x) (sym (drop_at xs l.behind (length xs) refl) ∙ ap (drop (length xs)) (sym l.ends))) (once (List-set (Option-set ℕ_set) _ _));
    }

-- the row that begins there, under its keys
record IsRowHere (d : Document) (k : Keys) (at : ℕ) (ks : List (List ℕ)) (fs : Fields) (u : Tree) : Type 0 where
  long : k.len ≡ length ks
  count : length (fields fs) ≡ length ks
  keys : KeysLie d ks k.at
  lie : FieldsLie d fs at
  value : part_value (row_of ks fs) ≡ Some u
  whole : FieldsHaveWholeRows fs

row_here : (d : Document) (k : Keys) (at : ℕ) → IsRowIfKeyed d (Some k) at → IsRowHere d k at (take k.len (keys_among (members_at d k.at))) (fields_from k.len (members_at d at)) (part_read d (Some k) at)
row_here d k at (u, h) = of_part h.part h.lies h.value h.whole
  where
    of_part : (p : Part) → PartLies d (Some k) at p → part_value p ≡ Some u → PartIsWhole p → IsRowHere d k at (take k.len (keys_among (members_at d k.at))) (fields_from k.len (members_at d at)) (part_read d (Some k) at)
    of_part (tree t) l v w = let e = l.0 in absurd cc
    of_part skipped l v w = let e = l.0 in absurd cc
    of_part (row_of ks fs) l v w =
        let same : k ≡ l.keys_at = same_Some k l.keys_at l.some in
        let shows : ShowsKeys d k ks = subst (λ k. ShowsKeys d k ks) (sym same) l.shows in
        let here : IsRowHere d k at ks fs u = record { long = shows.count; count = l.count; keys = shows.lie; lie = l.lie; value = v; whole = w } in
        subst (λ ks. IsRowHere d k at ks (fields_from k.len (members_at d at)) (part_read d (Some k) at)) (sym (keys_there d k ks shows))
        (subst (λ fs. IsRowHere d k at ks fs (part_read d (Some k) at)) (sym (fields_there d at k.len fs (shows.count ∙ sym l.count) w l.lie))
        (subst (λ u. IsRowHere d k at ks fs u) (part_is d (Some k) at u h) here))

pub row_had : (d : Document) (k : Keys) (at : ℕ) → ∥ IsRowIfKeyed d (Some k) at ∥₁ → IsPart d (Some k) at (part_read d (Some k) at)
row_had d k at h =
    let ks : List (List ℕ) = take k.len (keys_among (members_at d k.at)) in
    let fs : Fields = fields_from k.len (members_at d at) in
    let here : ∥ IsRowHere d k at ks fs (part_read d (Some k) at) ∥₁ = ∥∥₁_map h (row_here d k at) in
    record {
      part = row_of ks fs;
      lies = record {
        keys_at = k;
        some = refl;
        shows = record { count = had_map here (λ r. r.long) (once (ℕ_set _ _)); lie = had_map here (λ r. r.keys) (lies_had d k.at (key_events ks) (keys_ends ks k.at)) };
        count = had_map here (λ r. r.count) (once (ℕ_set _ _));
        lie = had_map here (λ r. r.lie) (lies_had d at (field_events fs) (fields_ends fs at));
      };
      value = had_map here (λ r. r.value) (once (Option-set Tree-set _ _));
      whole = had_map here (λ r. r.whole) (once (fields_rows-prop fs));
      texts = has_texts d;
    }
