-- Putting the rows of a template.
use Rattle.std.proofs.Common.{◌≡◌, ℕ, suc, ◌+◌, ◌-◌, ◌<◌, ◌≤◌, ◌^◌, List, [], ◌∷◌, length, Some, None, Result, Ok, refl, sym, ap, subst, ◌∙◌, arith, Bor}
use Rattle.std.specs.Map.{keys_of}
use Rattle.bser_format.specs.Tree.{Tree, array, items}
use Rattle.bser_format.specs.Canonical.{canonical_key, IsCount, IsWritable}
use Rattle.bser_format.specs.Measures.{depth, items_depth}
use Rattle.bser_format.specs.Normal.{last_entries}
use Rattle.bser_format.specs.Pieces.{array_head, object_head}
use Rattle.bser_format.specs.declared.errors.Error.{Error}
use Rattle.bser_ser.specs.Ends.{Ends, Stops, text_of, CanBeWritten}
use Rattle.bser_ser.specs.Sent.{Sent, Refused, IsExcuse}
use Rattle.bser_ser.specs.Stopped.{Tells}
use Rattle.bser_ser.specs.declared.serializer.Serializer.{Serializer}
use Rattle.bser_ser.proofs.Sends.{Joins}
use Rattle.bser_ser.proofs.Texts.{ItemsPut, items_start, items_more, items_put, items_writable, items_stop}
use Rattle.bser_document.specs.declared.item.Item.{Item}
use Rattle.bser_document.specs.declared.put.AddError.{AddError}
use Rattle.bser_document.specs.declared.rows.Rows.{Rows}
use Rattle.bser_document.specs.declared.rows.Row.{Row}
use Rattle.bser_document.specs.Order.{shown, last_places, value_at}
use Rattle.bser_document.specs.Put.{AddsItem}
use Rattle.bser_document.specs.Rows.{Pair, HoldsRow, HoldsRows, FindsRows, GivesRow, row_object, row_objects}
use Rattle.bser_document.proofs.Orders.{with_values, row_in_order}
use Rattle.bser_document.proofs.Puts.{whole, array_whole}
use Rattle.bser_document.proofs.PutPairs.{PuttingPairs, pairs_begun, pair_more, pair_stops, pair_key_stops, pairs_all}

-- a template, where its rows are put
pub rows_added : {S A : Type 0} (sink : Tells S) (i : Item) (room : ℕ) (s : Rows) (a b : Serializer S) (r : Result A AddError) (u : Tree) → FindsRows i u (Some s) → depth u < room
    → ((ks : List (List ℕ)) (ms : List (List Pair)) → HoldsRows s ks ms → items_depth (row_objects ms) < room - 1 → AddsItem sink a b (array (row_objects ms)) r) → AddsItem sink a b u r
rows_added sink i room s a b r u h deep added =
    let same : depth u ≡ depth (array (row_objects h.pairs)) = ap depth h.same in
    subst (λ u. AddsItem sink a b u r) (sym h.same) (added h.keys h.pairs h.holds (omega (arith, deep, same)))

-- ---- the rows

-- the rows before these are put
pub record PuttingRows {S : Type 0} (sink : Tells S) (ks : List (List ℕ)) (ms : List (List Pair)) (room : ℕ) (rest : Rows) (a b : Serializer S) : Type 0 where
  pub left : List (List Pair)
  pub holds : HoldsRows rest ks left
  pub shallow : items_depth (row_objects left) < room
  pub put : ItemsPut sink whole (items (row_objects ms)) (items (row_objects left)) a b

rows_length : (ms : List (List Pair)) → length (items (row_objects ms)) ≡ length ms
rows_length [] = refl
rows_length (m ∷ ms) = ap suc (rows_length ms)

module _ {S : Type 0} (sink : Tells S) (ks : List (List ℕ)) (ms : List (List Pair)) (room : ℕ) where
  pub rows_begun : (s rest : Rows) (count : ℕ) (a b : Serializer S) → HoldsRows s ks ms → items_depth (row_objects ms) < room → s ≡ rest → count ≡ length ms → Sent sink a b (array_head count) → PuttingRows sink ks ms room rest a b
  rows_begun s rest count a b h deep same is sent = record { left = ms; holds = subst (λ s. HoldsRows s ks ms) same h; shallow = deep; put = items_start refl (subst (λ n. Sent sink a b (array_head n)) (is ∙ sym (rows_length ms)) sent) }

module _ {S : Type 0} (sink : Tells S) (both : Joins sink) (ks : List (List ℕ)) (ms : List (List Pair)) (room : ℕ) where
  pub row_more : (rest next : Rows) (r : Row) (a b c : Serializer S) → ((ks : List (List ℕ)) (ms : List (List Pair)) → HoldsRows rest ks ms → GivesRow ks ms (Some r) next)
      → ((m : List Pair) → HoldsRow r ks m → depth (row_object m) ≤ room - 1 → Ends sink (text_of (Ok (row_object m))) b c × IsWritable (row_object m)) → PuttingRows sink ks ms room rest a b → PuttingRows sink ks ms room next a c
  row_more rest next r a b c gives added h = of_left h.left h.holds h.shallow h.put
    where
      of_left : (l : List (List Pair)) → HoldsRows rest ks l → items_depth (row_objects l) < room → ItemsPut sink whole (items (row_objects ms)) (items (row_objects l)) a b → PuttingRows sink ks ms room next a c
      of_left [] holds deep put = absurd (gives ks [] holds)
      of_left (m ∷ l) holds deep put =
          let g = gives ks (m ∷ l) holds in
          let e = added m g.0 (omega (arith, deep)) in
          record { left = l; holds = g.1; shallow = omega (arith, deep); put = items_more both put refl e.0 e.1 }

module _ {S : Type 0} (sink : Tells S) (both : Joins sink) (ks : List (List ℕ)) (ms : List (List Pair)) (room : ℕ) where
  pub row_stops : (rest next : Rows) (r : Row) (a b c : Serializer S) (e : Error) → ((ks : List (List ℕ)) (ms : List (List Pair)) → HoldsRows rest ks ms → GivesRow ks ms (Some r) next)
      → ((m : List Pair) → HoldsRow r ks m → depth (row_object m) ≤ room - 1 → Stops sink (text_of (Ok (row_object m))) b c e) → PuttingRows sink ks ms room rest a b → Stops sink (text_of (Ok (array (row_objects ms)))) a c e
  row_stops rest next r a b c e gives added h = of_left h.left h.holds h.shallow h.put
    where
      of_left : (l : List (List Pair)) → HoldsRows rest ks l → items_depth (row_objects l) < room → ItemsPut sink whole (items (row_objects ms)) (items (row_objects l)) a b → Stops sink (text_of (Ok (array (row_objects ms)))) a c e
      of_left [] holds deep put = absurd (gives ks [] holds)
      of_left (m ∷ l) holds deep put =
          let g = gives ks (m ∷ l) holds in
          subst (λ (m : Result Tree Error). Stops sink (text_of m) a c e) (array_whole (row_objects ms)) (items_stop c e both put refl (added m g.0 (omega (arith, deep))))

module _ {S : Type 0} (sink : Tells S) (ks : List (List ℕ)) (ms : List (List Pair)) (room : ℕ) where
  pub rows_all : (rest next : Rows) (a b : Serializer S) → ((ks : List (List ℕ)) (ms : List (List Pair)) → HoldsRows rest ks ms → GivesRow ks ms None next) → length ms < 2 ^ 63
      → PuttingRows sink ks ms room rest a b → Ends sink (text_of (Ok (array (row_objects ms)))) a b × IsWritable (array (row_objects ms))
  rows_all rest next a b gives few h = of_left h.left h.holds h.put
    where
      of_left : (l : List (List Pair)) → HoldsRows rest ks l → ItemsPut sink whole (items (row_objects ms)) (items (row_objects l)) a b → Ends sink (text_of (Ok (array (row_objects ms)))) a b × IsWritable (array (row_objects ms))
      of_left [] holds put = (
        subst (λ (m : Result Tree Error). Ends sink (text_of m) a b) (array_whole (row_objects ms)) (items_put put refl),
        subst CanBeWritten (array_whole (row_objects ms)) (items_writable put refl (subst IsCount (sym (rows_length ms)) few)),
      )
      of_left (m ∷ l) holds put = absurd (gives ks (m ∷ l) holds)

-- ---- the fields of a row

-- the fields under these keys are still to be put
abbrev pub PuttingFields : {S : Type 0} → Tells S → List Pair → ℕ → List (Bor (List ℕ) × ℕ) → Serializer S → Serializer S → Type 0
PuttingFields sink m room rest a b = PuttingPairs sink (last_entries m) (with_values (value_at m) (shown rest)) room a b

fields_length : (m : List Pair) (order : List (Bor (List ℕ) × ℕ)) → length (with_values (value_at m) (shown order)) ≡ length order
fields_length m [] = refl
fields_length m (x ∷ order) = ap suc (fields_length m order)

pub last_length : (m : List Pair) (order : List (Bor (List ℕ) × ℕ)) → shown order ≡ last_places (keys_of m) → length order ≡ length (last_entries m)
last_length m order is = sym (fields_length m order) ∙ ap length (row_in_order m order is)

module _ {S : Type 0} (sink : Tells S) (m : List Pair) (room : ℕ) where
  pub fields_begun : (order rest : List (Bor (List ℕ) × ℕ)) (count : ℕ) (a b : Serializer S) → shown order ≡ last_places (keys_of m) → depth (row_object m) ≤ room → rest ≡ order → count ≡ length order → Sent sink a b (object_head count) → PuttingFields sink m room rest a b
  fields_begun order rest count a b is deep same counted sent =
      pairs_begun sink (last_entries m) room (with_values (value_at m) (shown rest)) a b (ap (λ l. with_values (value_at m) (shown l)) same ∙ row_in_order m order is) (omega (arith, deep))
      (subst (λ n. Sent sink a b (object_head n)) (counted ∙ last_length m order is) sent)

module _ {S : Type 0} (sink : Tells S) (both : Joins sink) (m : List Pair) (room : ℕ) where
  pub field_more : (rest left : List (Bor (List ℕ) × ℕ)) (x : Bor (List ℕ) × ℕ) (a b k c : Serializer S) → rest ≡ x ∷ left → IsCount (length x.0.now) → Sent sink b k (canonical_key x.0.now)
      → (depth (value_at m x.1) < room → Ends sink (text_of (Ok (value_at m x.1))) k c × IsWritable (value_at m x.1)) → PuttingFields sink m room rest a b → PuttingFields sink m room left a c
  field_more rest left x a b k c steps short key added h =
      pair_more sink both (last_entries m) room (x.0.now, value_at m x.1) (with_values (value_at m) (shown left)) a b k c short key added (subst (λ l. PuttingFields sink m room l a b) steps h)

module _ {S : Type 0} (sink : Tells S) (both : Joins sink) (m : List Pair) (room : ℕ) where
  pub field_stops : (rest left : List (Bor (List ℕ) × ℕ)) (x : Bor (List ℕ) × ℕ) (a b k c : Serializer S) (e : Error) → rest ≡ x ∷ left → Sent sink b k (canonical_key x.0.now)
      → (depth (value_at m x.1) < room → Stops sink (text_of (Ok (value_at m x.1))) k c e) → PuttingFields sink m room rest a b → Stops sink (text_of (Ok (row_object m))) a c e
  field_stops rest left x a b k c e steps key added h =
      pair_stops sink both (last_entries m) room (x.0.now, value_at m x.1) (with_values (value_at m) (shown left)) a b k c e key added (subst (λ l. PuttingFields sink m room l a b) steps h)

module _ {S : Type 0} (sink : Tells S) (both : Joins sink) (m : List Pair) (room : ℕ) where
  pub field_key_stops : (rest left : List (Bor (List ℕ) × ℕ)) (x : Bor (List ℕ) × ℕ) (a b c : Serializer S) (e : Error) → rest ≡ x ∷ left → Refused sink b c [] e → IsExcuse e → PuttingFields sink m room rest a b → Stops sink (text_of (Ok (row_object m))) a c e
  field_key_stops rest left x a b c e steps refused excuse h =
      pair_key_stops sink both (last_entries m) room (x.0.now, value_at m x.1) (with_values (value_at m) (shown left)) a b c e refused excuse (subst (λ l. PuttingFields sink m room l a b) steps h)

module _ {S : Type 0} (sink : Tells S) (m : List Pair) (room : ℕ) where
  pub fields_all : (rest : List (Bor (List ℕ) × ℕ)) (a b : Serializer S) → rest ≡ [] → length (last_entries m) < 2 ^ 63 → PuttingFields sink m room rest a b → Ends sink (text_of (Ok (row_object m))) a b × IsWritable (row_object m)
  fields_all rest a b none few h = pairs_all sink (last_entries m) room a b few (subst (λ l. PuttingFields sink m room l a b) none h)
