-- Putting the entries of an object, given by a list of pairs.
use Rattle.std.proofs.Common.{◌≡◌, ℕ, ◌<◌, ◌^◌, List, [], ◌∷◌, length, Result, Ok, Some, None, refl, sym, ap, subst, arith}
use Rattle.bser_format.specs.Tree.{Tree, object, entries_of}
use Rattle.bser_format.specs.Canonical.{canonical_key, IsCount, IsWritable}
use Rattle.bser_format.specs.Measures.{depth, entries_depth}
use Rattle.bser_format.specs.Pieces.{object_head}
use Rattle.bser_format.specs.Written.{entry_before, written_entries, object_tree, plain_bytes, map_ok}
use Rattle.bser_format.specs.declared.errors.Error.{Error}
use Rattle.bser_ser.specs.Ends.{Ends, Stops, text_of, CanBeWritten}
use Rattle.bser_ser.specs.Sent.{Sent, Refused, IsExcuse}
use Rattle.bser_ser.specs.Stopped.{Tells}
use Rattle.bser_ser.specs.declared.serializer.Serializer.{Serializer}
use Rattle.bser_ser.proofs.Sends.{Joins}
use Rattle.bser_ser.proofs.Ends.{Ends-both, Stops-second, Stops-none}
use Rattle.bser_ser.proofs.Texts.{EntriesPut, entries_start, entries_more, entries_put, entries_writable, entries_stop, entry_text}
use Rattle.bser_document.specs.declared.entries.Entries.{Entries}
use Rattle.bser_document.specs.declared.entries.Entry.{Entry}
use Rattle.bser_document.specs.Holds.{HoldsItem}
use Rattle.bser_document.specs.Pairs.{HoldsEntries, GivesEntry}
use Rattle.bser_document.specs.Rows.{Pair}
use Rattle.bser_document.proofs.Puts.{whole}

pairs_whole : (m : List Pair) → written_entries plain_bytes whole m ≡ Ok (entries_of m)
pairs_whole [] = refl
pairs_whole (p ∷ m) = ap (entry_before p.0 (Ok p.1)) (pairs_whole m)

object_whole : (m : List Pair) → object_tree plain_bytes whole m ≡ Ok (object (entries_of m))
object_whole m = ap (map_ok object) (pairs_whole m)

-- of these pairs, those before the left ones are put
pub record PuttingPairs {S : Type 0} (sink : Tells S) (m left : List Pair) (room : ℕ) (a b : Serializer S) : Type 0 where
  pub shallow : entries_depth (entries_of left) < room
  pub put : EntriesPut sink plain_bytes whole m left a b

module _ {S : Type 0} (sink : Tells S) (m : List Pair) (room : ℕ) where
  pub pairs_begun : (left : List Pair) (a b : Serializer S) → left ≡ m → entries_depth (entries_of m) < room → Sent sink a b (object_head (length m)) → PuttingPairs sink m left room a b
  pairs_begun left a b same deep sent = record { shallow = subst (λ l. entries_depth (entries_of l) < room) (sym same) deep; put = entries_start same sent }

module _ {S : Type 0} (sink : Tells S) (both : Joins sink) (m : List Pair) (room : ℕ) where
  pub pair_more : (p : Pair) (left : List Pair) (a b k c : Serializer S) → IsCount (length p.0) → Sent sink b k (canonical_key p.0) → (depth p.1 < room → Ends sink (text_of (Ok p.1)) k c × IsWritable p.1) → PuttingPairs sink m (p ∷ left) room a b → PuttingPairs sink m left room a c
  pair_more p left a b k c short key added h =
      let deep = h.shallow in
      let e = added (omega (arith, deep)) in
      record { shallow = omega (arith, deep); put = entries_more both h.put refl (Ends-both sink both (Ok (canonical_key p.0)) (text_of (Ok p.1)) b k c key e.0) (short, e.1) }

module _ {S : Type 0} (sink : Tells S) (both : Joins sink) (m : List Pair) (room : ℕ) where
  pub pair_stops : (p : Pair) (left : List Pair) (a b k c : Serializer S) (e : Error) → Sent sink b k (canonical_key p.0) → (depth p.1 < room → Stops sink (text_of (Ok p.1)) k c e) → PuttingPairs sink m (p ∷ left) room a b → Stops sink (text_of (Ok (object (entries_of m)))) a c e
  pair_stops p left a b k c e key added h =
      let deep = h.shallow in
      subst (λ (r : Result Tree Error). Stops sink (text_of r) a c e) (object_whole m)
      (entries_stop c e both h.put refl (Stops-second sink both (Ok (canonical_key p.0)) (text_of (Ok p.1)) b k c e key (added (omega (arith, deep)))))

module _ {S : Type 0} (sink : Tells S) (both : Joins sink) (m : List Pair) (room : ℕ) where
  pub pair_key_stops : (p : Pair) (left : List Pair) (a b c : Serializer S) (e : Error) → Refused sink b c [] e → IsExcuse e → PuttingPairs sink m (p ∷ left) room a b → Stops sink (text_of (Ok (object (entries_of m)))) a c e
  pair_key_stops p left a b c e refused excuse h =
      subst (λ (r : Result Tree Error). Stops sink (text_of r) a c e) (object_whole m)
      (entries_stop c e both h.put refl (Stops-none sink (entry_text plain_bytes whole p) b c e refused excuse))

module _ {S : Type 0} (sink : Tells S) (m : List Pair) (room : ℕ) where
  pub pairs_all : (a b : Serializer S) → length m < 2 ^ 63 → PuttingPairs sink m [] room a b → Ends sink (text_of (Ok (object (entries_of m)))) a b × IsWritable (object (entries_of m))
  pairs_all a b few h = (
    subst (λ (r : Result Tree Error). Ends sink (text_of r) a b) (object_whole m) (entries_put h.put refl),
    subst CanBeWritten (object_whole m) (entries_writable h.put refl few),
  )

-- ---- entries as they are spelled

-- the entries before these are put
pub record PuttingSpelled {S : Type 0} (sink : Tells S) (m : List Pair) (room : ℕ) (rest : Entries) (a b : Serializer S) : Type 0 where
  pub left : List Pair
  pub holds : HoldsEntries rest left
  pub put : PuttingPairs sink m left room a b

module _ {S : Type 0} (sink : Tells S) (m : List Pair) (room : ℕ) where
  pub spelled_begun : (s rest : Entries) (count : ℕ) (a b : Serializer S) → HoldsEntries s m → entries_depth (entries_of m) < room → s ≡ rest → count ≡ length m → Sent sink a b (object_head count) → PuttingSpelled sink m room rest a b
  spelled_begun s rest count a b h deep same is sent = record { left = m; holds = subst (λ s. HoldsEntries s m) same h; put = pairs_begun sink m room m a b refl deep (subst (λ n. Sent sink a b (object_head n)) is sent) }

module _ {S : Type 0} (sink : Tells S) (both : Joins sink) (m : List Pair) (room : ℕ) where
  pub spelled_more : (rest next : Entries) (x : Entry) (a b k c : Serializer S) → ((m : List Pair) → HoldsEntries rest m → GivesEntry m (Some x) next) → IsCount (length x.key.now) → Sent sink b k (canonical_key x.key.now)
      → ((u : Tree) → HoldsItem x.value u → depth u < room → Ends sink (text_of (Ok u)) k c × IsWritable u) → PuttingSpelled sink m room rest a b → PuttingSpelled sink m room next a c
  spelled_more rest next x a b k c gives short key added h = of_left h.left h.holds h.put
    where
      of_left : (l : List Pair) → HoldsEntries rest l → PuttingPairs sink m l room a b → PuttingSpelled sink m room next a c
      of_left [] holds put = absurd (gives [] holds)
      of_left (p ∷ l) holds put =
          let g = gives (p ∷ l) holds in
          record { left = l; holds = g.2; put = pair_more sink both m room p l a b k c (subst (λ k. IsCount (length k)) g.0 short) (subst (λ n. Sent sink b k (canonical_key n)) g.0 key) (added p.1 g.1) put }

module _ {S : Type 0} (sink : Tells S) (both : Joins sink) (m : List Pair) (room : ℕ) where
  pub spelled_stops : (rest next : Entries) (x : Entry) (a b k c : Serializer S) (e : Error) → ((m : List Pair) → HoldsEntries rest m → GivesEntry m (Some x) next) → Sent sink b k (canonical_key x.key.now)
      → ((u : Tree) → HoldsItem x.value u → depth u < room → Stops sink (text_of (Ok u)) k c e) → PuttingSpelled sink m room rest a b → Stops sink (text_of (Ok (object (entries_of m)))) a c e
  spelled_stops rest next x a b k c e gives key added h = of_left h.left h.holds h.put
    where
      of_left : (l : List Pair) → HoldsEntries rest l → PuttingPairs sink m l room a b → Stops sink (text_of (Ok (object (entries_of m)))) a c e
      of_left [] holds put = absurd (gives [] holds)
      of_left (p ∷ l) holds put =
          let g = gives (p ∷ l) holds in
          pair_stops sink both m room p l a b k c e (subst (λ n. Sent sink b k (canonical_key n)) g.0 key) (added p.1 g.1) put

module _ {S : Type 0} (sink : Tells S) (both : Joins sink) (m : List Pair) (room : ℕ) where
  pub spelled_key_stops : (rest next : Entries) (x : Entry) (a b c : Serializer S) (e : Error) → ((m : List Pair) → HoldsEntries rest m → GivesEntry m (Some x) next) → Refused sink b c [] e → IsExcuse e
      → PuttingSpelled sink m room rest a b → Stops sink (text_of (Ok (object (entries_of m)))) a c e
  spelled_key_stops rest next x a b c e gives refused excuse h = of_left h.left h.holds h.put
    where
      of_left : (l : List Pair) → HoldsEntries rest l → PuttingPairs sink m l room a b → Stops sink (text_of (Ok (object (entries_of m)))) a c e
      of_left [] holds put = absurd (gives [] holds)
      of_left (p ∷ l) holds put = pair_key_stops sink both m room p l a b c e refused excuse put

module _ {S : Type 0} (sink : Tells S) (m : List Pair) (room : ℕ) where
  pub spelled_all : (rest next : Entries) (a b : Serializer S) → ((m : List Pair) → HoldsEntries rest m → GivesEntry m None next) → length m < 2 ^ 63 → PuttingSpelled sink m room rest a b → Ends sink (text_of (Ok (object (entries_of m)))) a b × IsWritable (object (entries_of m))
  spelled_all rest next a b gives few h = of_left h.left h.holds h.put
    where
      of_left : (l : List Pair) → HoldsEntries rest l → PuttingPairs sink m l room a b → Ends sink (text_of (Ok (object (entries_of m)))) a b × IsWritable (object (entries_of m))
      of_left [] holds put = pairs_all sink m room a b few put
      of_left (p ∷ l) holds put = absurd (gives (p ∷ l) holds)
