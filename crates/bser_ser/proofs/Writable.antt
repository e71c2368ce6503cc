-- What can be written, where its parts can.
use Rattle.std.proofs.Common.{rules, arith, ◌≡◌, ℕ, Bool, true, false, nat_lt, if◌then◌else◌, suc, ◌<◌, ◌^◌, List, [], ◌∷◌, length, Result, Ok, Err, IfOk, sym, ap, refl, subst}
use Rattle.std.specs.List.{AllByRecursion}
use Rattle.bser_format.specs.Tree.{Tree, Items, Entries, array, object, items, entries}
use Rattle.bser_format.specs.Canonical.{IsCount, ItemsAreWritable, EntriesAreWritable}
use Rattle.bser_format.specs.Written.{map_ok, up_to_i64, item_before, entry_before, written_items, written_entries, within_i64, array_tree, object_tree, part_tree, plain_bytes, tuple_tree, struct_tree, variant_tree}
use Rattle.bser_format.specs.declared.errors.Error.{Error}
use Rattle.bser_ser.specs.Ends.{CanBeWritten}

-- items and entries that can be written, and how many they are
abbrev AreItems : ℕ → Items → Type 0
AreItems n ts = (length (items ts) ≡ n) × ItemsAreWritable ts

abbrev AreEntries : ℕ → Entries → Type 0
AreEntries n es = (length (entries es) ≡ n) × EntriesAreWritable es

-- an entry whose key is not too long, and whose value can be written
abbrev pub EntryCanBeWritten : {K V : Type 0} → (K → List ℕ) → (V → Result Tree Error) → K × V → Type 0
EntryCanBeWritten key f e = IsCount (length (key e.0)) × CanBeWritten (f e.1)

one_item : (n : ℕ) (o : Result Tree Error) (ts : Result Items Error) → CanBeWritten o → IfOk ts (AreItems n) → IfOk (item_before o ts) (AreItems (suc n))
one_item n (Err d) ts p q = tt
one_item n (Ok t) (Err d) p q = tt
one_item n (Ok t) (Ok ts) p q = (ap suc q.0, (p, q.1))

one_entry : (n : ℕ) (k : List ℕ) (o : Result Tree Error) (es : Result Entries Error) → IsCount (length k) → CanBeWritten o → IfOk es (AreEntries n) → IfOk (entry_before k o es) (AreEntries (suc n))
one_entry n k (Err d) es c p q = tt
one_entry n k (Ok t) (Err d) c p q = tt
one_entry n k (Ok t) (Ok es) c p q = (ap suc q.0, (c, p, q.1))

each_item : {A : Type 0} (f : A → Result Tree Error) (xs : List A) → AllByRecursion (λ x. CanBeWritten (f x)) xs → IfOk (written_items f xs) (AreItems (length xs))
each_item f [] h = (refl, tt)
each_item f (x ∷ xs) h = one_item (length xs) (f x) (written_items f xs) h.0 (each_item f xs h.1)

each_entry : {K V : Type 0} (key : K → List ℕ) (f : V → Result Tree Error) (es : List (K × V)) → AllByRecursion (EntryCanBeWritten key f) es → IfOk (written_entries key f es) (AreEntries (length es))
each_entry key f [] h = (refl, tt)
each_entry key f (e ∷ es) h = one_entry (length es) (key e.0) (f e.1) (written_entries key f es) h.0.0 h.0.1 (each_entry key f es h.1)

as_array : (n : ℕ) (ts : Result Items Error) → n < 2 ^ 63 → IfOk ts (AreItems n) → CanBeWritten (map_ok array ts)
as_array n (Err d) h p = tt
as_array n (Ok ts) h p = (subst IsCount (sym p.0) h, p.1)

as_object : (n : ℕ) (es : Result Entries Error) → n < 2 ^ 63 → IfOk es (AreEntries n) → CanBeWritten (map_ok object es)
as_object n (Err d) h p = tt
as_object n (Ok es) h p = (subst IsCount (sym p.0) h, p.1)

pub array_writable : {A : Type 0} (f : A → Result Tree Error) (xs : List A) → length xs < 2 ^ 63 → AllByRecursion (λ x. CanBeWritten (f x)) xs → CanBeWritten (array_tree f xs)
array_writable f xs few h = as_array (length xs) (written_items f xs) few (each_item f xs h)

pub object_writable : {K V : Type 0} (key : K → List ℕ) (f : V → Result Tree Error) (es : List (K × V)) → length es < 2 ^ 63 → AllByRecursion (EntryCanBeWritten key f) es → CanBeWritten (object_tree key f es)
object_writable key f es few h = as_object (length es) (written_entries key f es) few (each_entry key f es h)

-- a tuple, a struct, and a variant with a payload
pub tuple_writable : (parts : List (Result Tree Error)) → length parts < 2 ^ 63 → AllByRecursion CanBeWritten parts → CanBeWritten (tuple_tree parts)
tuple_writable parts few h = array_writable part_tree parts few h

pub struct_writable : (fields : List (List ℕ × Result Tree Error)) → length fields < 2 ^ 63 → AllByRecursion (EntryCanBeWritten plain_bytes part_tree) fields → CanBeWritten (struct_tree fields)
struct_writable fields few h = object_writable plain_bytes part_tree fields few h

pub variant_writable : (name : List ℕ) (m : Result Tree Error) → IsCount (length name) → CanBeWritten m → CanBeWritten (variant_tree name m)
variant_writable name m short h = struct_writable ((name, m) ∷ []) (search rules) ((short, h), tt)

where_true : (b : Bool) (d : Error) (m : Result Tree Error) → (b ≡ true → CanBeWritten m) → CanBeWritten (if b then m else Err d)
where_true true d m h = h refl
where_true false d m h = tt

up_to_writable : (n : ℕ) (d : Error) (m : Result Tree Error) → (n < 2 ^ 63 → CanBeWritten m) → CanBeWritten (up_to_i64 n d m)
up_to_writable n d m h = where_true (nat_lt n (2 ^ 63)) d m (λ e. h (grind (arith, e)))

-- what an i64 counts
pub within_writable : (n : ℕ) (m : Result Tree Error) → (n < 2 ^ 63 → CanBeWritten m) → CanBeWritten (within_i64 n m)
within_writable n m h = up_to_writable n _ m h

-- of all, each that is not in rest has the property
module _ {A : Type 0} (P : A → Type 0) where
  abbrev pub AllBefore : List A → List A → Type 0
  AllBefore all rest = AllByRecursion P rest → AllByRecursion P all

  pub AllBefore-start : (all rest : List A) → rest ≡ all → AllBefore all rest
  AllBefore-start all rest is h = subst (AllByRecursion P) is h

  pub AllBefore-more : (all rest left : List A) (x : A) → AllBefore all rest → rest ≡ x ∷ left → P x → AllBefore all left
  AllBefore-more all rest left x before step p h = before (subst (AllByRecursion P) (sym step) (p, h))

  pub AllBefore-all : (all rest : List A) → AllBefore all rest → rest ≡ [] → AllByRecursion P all
  AllBefore-all all rest before none = before (subst (AllByRecursion P) (sym none) tt)
