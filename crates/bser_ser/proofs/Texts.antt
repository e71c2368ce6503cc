-- The text of a value with parts, by the texts of its parts.
use Rattle.std.proofs.Common.{◌≡◌, ℕ, suc, ◌<◌, ◌^◌, List, [], ◌∷◌, ◌++◌, length, Result, Ok, Err, arith, sym, ap, refl, subst}
use Rattle.bser_format.specs.Tree.{Tree, Items, Entries, array, object, items, entries}
use Rattle.bser_format.specs.Canonical.{canonical_body, canonical_items, canonical_entries, canonical_key}
use Rattle.bser_format.specs.Pieces.{array_head, object_head}
use Rattle.bser_format.specs.Written.{map_ok, item_before, entry_before, written_items, written_entries, array_tree, object_tree, slice_tree}
use Rattle.bser_format.specs.declared.errors.Error.{Error}
use Rattle.bser_ser.specs.Sent.{Sent}
use Rattle.bser_ser.specs.Ends.{Ends, Stops, text_of, then, CanBeWritten}
use Rattle.bser_ser.specs.Stopped.{Tells}
use Rattle.bser_ser.specs.declared.serializer.Serializer.{Serializer}
use Rattle.bser_ser.proofs.Sends.{Joins}
use Rattle.bser_ser.proofs.Writable.{EntryCanBeWritten, AllBefore, AllBefore-start, AllBefore-more, AllBefore-all, array_writable, object_writable}
use Rattle.bser_ser.proofs.Ends.{joined, UpTo, UpTo-start, UpTo-more, UpTo-all, UpTo-stops}

-- a count, and what is written after it
abbrev pub items_pair : Items → ℕ × List ℕ
items_pair ts = (length (items ts), canonical_items ts)

abbrev pub entries_pair : Entries → ℕ × List ℕ
entries_pair es = (length (entries es), canonical_entries es)

abbrev pub with : ℕ → List ℕ → ℕ × List ℕ
with n bs = (n, bs)

one_item : (o : Result Tree Error) (ts : Result Items Error) (n : ℕ) (m : Result (List ℕ) Error) → map_ok items_pair ts ≡ map_ok (with n) m
    → map_ok items_pair (item_before o ts) ≡ map_ok (with (suc n)) (then (text_of o) m)
one_item (Err d) ts n m e = refl
one_item (Ok t) (Err d) n (Err f) e = ap (map_ok (λ (p : ℕ × List ℕ). p)) e
one_item (Ok t) (Err d) n (Ok bs) e = cc
one_item (Ok t) (Ok ts) n (Err f) e = cc
one_item (Ok t) (Ok ts) n (Ok bs) e = ap (map_ok (λ (p : ℕ × List ℕ). (suc p.0, canonical_body t ++ p.1))) e

one_entry : (k : List ℕ) (o : Result Tree Error) (es : Result Entries Error) (n : ℕ) (m : Result (List ℕ) Error) → map_ok entries_pair es ≡ map_ok (with n) m
    → map_ok entries_pair (entry_before k o es) ≡ map_ok (with (suc n)) (then (then (Ok (canonical_key k)) (text_of o)) m)
one_entry k (Err d) es n m e = refl
one_entry k (Ok t) (Err d) n (Err f) e = ap (map_ok (λ (p : ℕ × List ℕ). p)) e
one_entry k (Ok t) (Err d) n (Ok bs) e = cc
one_entry k (Ok t) (Ok es) n (Err d) e = cc
one_entry k (Ok t) (Ok es) n (Ok bs) e = ap (map_ok (λ (p : ℕ × List ℕ). (suc p.0, (canonical_key k ++ canonical_body t) ++ p.1))) e

abbrev pub item_text : {A : Type 0} → (A → Result Tree Error) → A → Result (List ℕ) Error
item_text f x = text_of (f x)

abbrev pub entry_text : {K V : Type 0} → (K → List ℕ) → (V → Result Tree Error) → K × V → Result (List ℕ) Error
entry_text k f e = then (Ok (canonical_key (k e.0))) (text_of (f e.1))

items_joined : {A : Type 0} (f : A → Result Tree Error) (xs : List A) → map_ok items_pair (written_items f xs) ≡ map_ok (with (length xs)) (joined (item_text f) xs)
items_joined f [] = refl
items_joined f (x ∷ xs) = one_item (f x) (written_items f xs) (length xs) (joined (item_text f) xs) (items_joined f xs)

entries_joined : {K V : Type 0} (k : K → List ℕ) (f : V → Result Tree Error) (es : List (K × V)) → map_ok entries_pair (written_entries k f es) ≡ map_ok (with (length es)) (joined (entry_text k f) es)
entries_joined k f [] = refl
entries_joined k f (e ∷ es) = one_entry (k e.0) (f e.1) (written_entries k f es) (length es) (joined (entry_text k f) es) (entries_joined k f es)

as_array : (ts : Result Items Error) (n : ℕ) (m : Result (List ℕ) Error) → map_ok items_pair ts ≡ map_ok (with n) m → text_of (map_ok array ts) ≡ then (Ok (array_head n)) m
as_array (Err d) n (Err f) e = ap (map_ok (λ (p : ℕ × List ℕ). p.1)) e
as_array (Err d) n (Ok bs) e = cc
as_array (Ok ts) n (Err d) e = cc
as_array (Ok ts) n (Ok bs) e = ap (map_ok (λ (p : ℕ × List ℕ). array_head p.0 ++ p.1)) e

as_object : (es : Result Entries Error) (n : ℕ) (m : Result (List ℕ) Error) → map_ok entries_pair es ≡ map_ok (with n) m → text_of (map_ok object es) ≡ then (Ok (object_head n)) m
as_object (Err d) n (Err f) e = ap (map_ok (λ (p : ℕ × List ℕ). p.1)) e
as_object (Err d) n (Ok bs) e = cc
as_object (Ok es) n (Err d) e = cc
as_object (Ok es) n (Ok bs) e = ap (map_ok (λ (p : ℕ × List ℕ). object_head p.0 ++ p.1)) e

pub array_text : {A : Type 0} (f : A → Result Tree Error) (xs : List A) → text_of (array_tree f xs) ≡ then (Ok (array_head (length xs))) (joined (item_text f) xs)
array_text f xs = as_array (written_items f xs) (length xs) (joined (item_text f) xs) (items_joined f xs)

pub object_text : {K V : Type 0} (k : K → List ℕ) (f : V → Result Tree Error) (es : List (K × V)) → text_of (object_tree k f es) ≡ then (Ok (object_head (length es))) (joined (entry_text k f) es)
object_text k f es = as_object (written_entries k f es) (length es) (joined (entry_text k f) es) (entries_joined k f es)

-- an array of which the items before rest are written, and can be
pub record ItemsPut {S A : Type 0} (sink : Tells S) (f : A → Result Tree Error) (xs rest : List A) (a b : Serializer S) : Type 0 where
  pub put : UpTo sink (array_head (length xs)) (item_text f) xs rest a b
  pub writable : AllBefore (λ x. CanBeWritten (f x)) xs rest

module _ {S A : Type 0} {sink : Tells S} {f : A → Result Tree Error} {xs rest : List A} {a b : Serializer S} where
  pub items_start : rest ≡ xs → Sent sink a b (array_head (length xs)) → ItemsPut sink f xs rest a b
  items_start is s = record { put = UpTo-start sink (array_head (length xs)) (item_text f) xs rest a b is s; writable = AllBefore-start (λ x. CanBeWritten (f x)) xs rest is }

  pub items_more : {left : List A} {x : A} {c : Serializer S} → Joins sink → ItemsPut sink f xs rest a b → rest ≡ x ∷ left → Ends sink (text_of (f x)) b c → CanBeWritten (f x) → ItemsPut sink f xs left a c
  items_more {left = left} {x = x} {c = c} both p step t w = record {
    put = UpTo-more sink both (array_head (length xs)) (item_text f) xs rest left x a b c p.put step t;
    writable = AllBefore-more (λ x. CanBeWritten (f x)) xs rest left x p.writable step w;
  }

  pub items_put : ItemsPut sink f xs rest a b → rest ≡ [] → Ends sink (text_of (array_tree f xs)) a b
  items_put p none = subst (λ (m : Result (List ℕ) Error). Ends sink m a b) (sym (array_text f xs)) (UpTo-all sink (array_head (length xs)) (item_text f) xs rest a b p.put none)

  pub items_writable : ItemsPut sink f xs rest a b → rest ≡ [] → length xs < 2 ^ 63 → CanBeWritten (array_tree f xs)
  items_writable p none few = array_writable f xs few (AllBefore-all (λ x. CanBeWritten (f x)) xs rest p.writable none)

  pub items_stop : {left : List A} {x : A} (c : Serializer S) (e : Error) → Joins sink → ItemsPut sink f xs rest a b → rest ≡ x ∷ left → Stops sink (text_of (f x)) b c e → Stops sink (text_of (array_tree f xs)) a c e
  items_stop {left = left} {x = x} c e both p step t =
      subst (λ (m : Result (List ℕ) Error). Stops sink m a c e) (sym (array_text f xs)) (UpTo-stops sink both (array_head (length xs)) (item_text f) xs rest left x a b c e p.put step t)

-- the last item is put
pub items_done : {S A : Type 0} {sink : Tells S} {f : A → Result Tree Error} {xs : List A} {x : A} {a b : Serializer S} (c : Serializer S) → Joins sink → ItemsPut sink f xs (x ∷ []) a b → Ends sink (text_of (f x)) b c → Ends sink (text_of (array_tree f xs)) a c
items_done {sink = sink} {f = f} {xs = xs} {x = x} {a = a} {b = b} c both p t =
    subst (λ (m : Result (List ℕ) Error). Ends sink m a c) (sym (array_text f xs)) (UpTo-all sink (array_head (length xs)) (item_text f) xs [] a c (UpTo-more sink both (array_head (length xs)) (item_text f) xs (x ∷ []) [] x a b c p.put refl t) refl)

-- an object of which the entries before rest are written, and can be
pub record EntriesPut {S K V : Type 0} (sink : Tells S) (k : K → List ℕ) (f : V → Result Tree Error) (es rest : List (K × V)) (a b : Serializer S) : Type 0 where
  pub put : UpTo sink (object_head (length es)) (entry_text k f) es rest a b
  pub writable : AllBefore (EntryCanBeWritten k f) es rest

module _ {S K V : Type 0} {sink : Tells S} {k : K → List ℕ} {f : V → Result Tree Error} {es rest : List (K × V)} {a b : Serializer S} where
  pub entries_start : rest ≡ es → Sent sink a b (object_head (length es)) → EntriesPut sink k f es rest a b
  entries_start is s = record { put = UpTo-start sink (object_head (length es)) (entry_text k f) es rest a b is s; writable = AllBefore-start (EntryCanBeWritten k f) es rest is }

  pub entries_more : {left : List (K × V)} {x : K × V} {c : Serializer S} → Joins sink → EntriesPut sink k f es rest a b → rest ≡ x ∷ left → Ends sink (entry_text k f x) b c → EntryCanBeWritten k f x → EntriesPut sink k f es left a c
  entries_more {left = left} {x = x} {c = c} both p step t w = record {
    put = UpTo-more sink both (object_head (length es)) (entry_text k f) es rest left x a b c p.put step t;
    writable = AllBefore-more (EntryCanBeWritten k f) es rest left x p.writable step w;
  }

  pub entries_put : EntriesPut sink k f es rest a b → rest ≡ [] → Ends sink (text_of (object_tree k f es)) a b
  entries_put p none = subst (λ (m : Result (List ℕ) Error). Ends sink m a b) (sym (object_text k f es)) (UpTo-all sink (object_head (length es)) (entry_text k f) es rest a b p.put none)

  pub entries_writable : EntriesPut sink k f es rest a b → rest ≡ [] → length es < 2 ^ 63 → CanBeWritten (object_tree k f es)
  entries_writable p none few = object_writable k f es few (AllBefore-all (EntryCanBeWritten k f) es rest p.writable none)

  pub entries_stop : {left : List (K × V)} {x : K × V} (c : Serializer S) (e : Error) → Joins sink → EntriesPut sink k f es rest a b → rest ≡ x ∷ left → Stops sink (entry_text k f x) b c e → Stops sink (text_of (object_tree k f es)) a c e
  entries_stop {left = left} {x = x} c e both p step t =
      subst (λ (m : Result (List ℕ) Error). Stops sink m a c e) (sym (object_text k f es)) (UpTo-stops sink both (object_head (length es)) (entry_text k f) es rest left x a b c e p.put step t)

pub no_items : {A : Type 0} (xs : List A) → length xs ≡ 0 → xs ≡ []
no_items [] e = refl
no_items (x ∷ xs) e = absurd cc

slice_within : {A : Type 0} (f : A → Result Tree Error) (xs : List A) → length xs < 2 ^ 63 → slice_tree f xs ≡ array_tree f xs
slice_within f xs h = grind (arith, h)

module _ {S A : Type 0} (sink : Tells S) (f : A → Result Tree Error) (xs : List A) where
  pub Ends-slice : (a b : Serializer S) → length xs < 2 ^ 63 → Ends sink (text_of (array_tree f xs)) a b → Ends sink (text_of (slice_tree f xs)) a b
  Ends-slice a b h s = subst (λ (m : Result Tree Error). Ends sink (text_of m) a b) (sym (slice_within f xs h)) s

module _ {S A : Type 0} (sink : Tells S) (f : A → Result Tree Error) (xs : List A) where
  pub Stops-slice : (a b : Serializer S) (e : Error) → length xs < 2 ^ 63 → Stops sink (text_of (array_tree f xs)) a b e → Stops sink (text_of (slice_tree f xs)) a b e
  Stops-slice a b e h s = subst (λ (m : Result Tree Error). Stops sink (text_of m) a b e) (sym (slice_within f xs h)) s
