-- The events of a tree make the value that it reads as.
use Rattle.std.proofs.Common.{◌≡◌, ℕ, suc, List, [], ◌∷◌, ◌++◌, length, Option, Some, None, option_and_then, refl, sym, ap, ◌∙◌, append-nil, append_assoc, arith}
use Rattle.std.proofs.lemmas.Option.{same_Some}
use Rattle.std.specs.List.{AllByRecursion}
use Rattle.std.specs.Str.{is_utf8}
use Rattle.bser_format.specs.Tree as trees
use Rattle.bser_format.specs.Tree.{Tree, null, boolean, integer, real, bytes, text, array, object, template, Items, no_items, item, no_entries, entry, Rows, no_rows, row, Fields, no_fields, skip, field, items, fields, rows, items_of, entries_of}
use Rattle.bser_format.specs.Expand.{expand, expand_items, expand_entries, expand_rows, expand_fields}
use Rattle.bser_format.specs.Normal.{normal, normal_items, normal_entries, last_entries}
use Rattle.bser_format.proofs.Fronts.{items_back}
use Rattle.bser_format.proofs.Least.{map_some, then_some, guard_some, put_all}
use Rattle.bser_events.specs.Events as events
use Rattle.bser_events.specs.Events.{Event, item_events, entry_events, row_events, field_events, key_events}
use Rattle.bser_deserializer.specs.WholeRows.{HasWholeRows, ItemsHaveWholeRows, EntriesHaveWholeRows, RowsHaveWholeRows, FieldsHaveWholeRows}
use Rattle.bser_value.specs.Made.{Entries, Open, in_array, in_object, in_keys, in_rows, Stack, with_entry, give, closed, make, makes}

-- ---- events one after the other

and_then_some : {A : Type 0} (o : Option A) → option_and_then Some o ≡ o
and_then_some None = refl
and_then_some (Some x) = refl

pub one_event : (e : Event) (s : Stack) → makes (e ∷ []) s ≡ make e s
one_event e s = and_then_some (make e s)

-- two steps are one step and another
both : (f g h : Stack → Option Stack) → ((t : Stack) → f t ≡ option_and_then h (g t)) → (o : Option Stack) → option_and_then f o ≡ option_and_then h (option_and_then g o)
both f g h same None = refl
both f g h same (Some t) = same t

pub makes_append : (es fs : List Event) (s : Stack) → makes (es ++ fs) s ≡ option_and_then (makes fs) (makes es s)
makes_append [] fs s = refl
makes_append (e ∷ es) fs s = both (makes (es ++ fs)) (makes es) (makes fs) (λ t. makes_append es fs t) (make e s)

-- what was made, and more after it
then_makes : (es fs : List Event) (s : Stack) (o : Option Stack) → makes es s ≡ o → makes (es ++ fs) s ≡ option_and_then (makes fs) o
then_makes es fs s o h = makes_append es fs s ∙ ap (option_and_then (makes fs)) h

-- a container that is closed after its parts
then_closes : (es : List Event) (s t : Stack) → makes es s ≡ Some t → makes (es ++ events.close ∷ []) s ≡ closed t.inner t.around
then_closes es s t h = then_makes es (events.close ∷ []) s (Some t) h ∙ one_event events.close t

abbrev at : Open → List Open → Stack
at i os = record { inner = i; around = os }

-- ---- a template's parts

keys_made : (ks acc : List (List ℕ)) (os : List Open) → makes (key_events ks) (at (in_keys acc) os) ≡ Some (at (in_keys (acc ++ ks)) os)
keys_made [] acc os = ap (λ l. Some (at (in_keys l) os)) (sym (append-nil acc))
keys_made (k ∷ ks) acc os = keys_made ks (acc ++ k ∷ []) os ∙ ap (λ l. Some (at (in_keys l) os)) (append_assoc acc (k ∷ []) ks)

-- the fields that are left of a row make it an object
abbrev FieldsMake : Fields → Type 0
FieldsMake fs = (k : List ℕ) (ls : List (List ℕ)) (m acc : Entries) (ks : List (List ℕ)) (done : List Tree) (os : List Open)
    → length (fields fs) ≡ suc (length ls) → normal_entries (expand_fields (k ∷ ls) fs) ≡ Some m
    → makes (field_events fs) (at (in_rows ks done acc (k ∷ ls)) os) ≡ Some (at (in_rows ks (done ++ object (entries_of (put_all acc m)) ∷ []) [] ks) os)

-- the same after the first of them
fields_after : (fs : Fields) → FieldsMake fs → (u : Tree) (k : List ℕ) (ls : List (List ℕ)) (l acc : Entries) (ks : List (List ℕ)) (done : List Tree) (os : List Open)
    → length (fields fs) ≡ length ls → normal_entries (expand_fields ls fs) ≡ Some l
    → option_and_then (makes (field_events fs)) (give u (at (in_rows ks done acc (k ∷ ls)) os)) ≡ Some (at (in_rows ks (done ++ object (entries_of (put_all acc ((k, u) ∷ l))) ∷ []) [] ks) os)
fields_after no_fields more u k [] l acc ks done os even e =
    ap (λ x. Some (at (in_rows ks (done ++ object (entries_of (put_all acc ((k, u) ∷ x))) ∷ []) [] ks) os)) (same_Some [] l e)
fields_after (skip fs) more u k [] l acc ks done os even e = absurd (omega (arith, even))
fields_after (field t fs) more u k [] l acc ks done os even e = absurd (omega (arith, even))
fields_after fs more u k (j ∷ js) l acc ks done os even e = more j js l (with_entry acc k u) ks done os even e

-- ---- trees

mutual
  pub made : (t : Tree) → HasWholeRows t → (u : Tree) (s : Stack) → normal (expand t) ≡ Some u → makes (events.events t) s ≡ give u s
  made null h u s e = one_event events.null s ∙ ap (λ v. give v s) (same_Some null u e)
  made (boolean x) h u s e = one_event (events.boolean x) s ∙ ap (λ v. give v s) (same_Some (boolean x) u e)
  made (integer x) h u s e = one_event (events.integer x) s ∙ ap (λ v. give v s) (same_Some (integer x) u e)
  made (real x) h u s e = one_event (events.real x) s ∙ ap (λ v. give v s) (same_Some (real x) u e)
  made (bytes x) h u s e = one_event (events.bytes x) s ∙ ap (λ v. give v s) (same_Some (bytes x) u e)
  made (text x) h u s e = one_event (events.text x) s ∙ ap (λ v. give v s) (same_Some (text x) u e)
  made (array ts) h u s e = map_some array (normal_items (expand_items ts)) u e λ us some same.
      then_closes (item_events ts) (at (in_array []) (s.inner ∷ s.around)) (at (in_array (items us)) (s.inner ∷ s.around)) (items_made ts h us [] (s.inner ∷ s.around) some)
      ∙ ap (λ v. give (array v) s) (items_back us) ∙ ap (λ v. give v s) same
  made (object es) h u s e = map_some (λ m. object (entries_of (last_entries m))) (normal_entries (expand_entries es)) u e λ m some same.
      then_closes (entry_events es) (at (in_object [] None) (s.inner ∷ s.around)) (at (in_object (put_all [] m) None) (s.inner ∷ s.around)) (entries_made es h m [] (s.inner ∷ s.around) some)
      ∙ ap (λ v. give v s) same
  made (template [] no_rows) h u s e = and_then_some (give (array no_items) s) ∙ ap (λ v. give v s) (same_Some (array no_items) u e)
  made (template [] (row fs rs)) h u s e = absurd (let f = h.0 in cc)
  made (template (k ∷ ks) rs) h u s e = map_some array (normal_items (expand_rows (k ∷ ks) rs)) u e λ us some same.
      then_makes (key_events (k ∷ ks)) (events.open_rows (length (rows rs)) ∷ (row_events rs ++ events.close ∷ [])) (at (in_keys []) (s.inner ∷ s.around))
      (Some (at (in_keys (k ∷ ks)) (s.inner ∷ s.around))) (keys_made (k ∷ ks) [] (s.inner ∷ s.around))
      ∙ then_closes (row_events rs) (at (in_rows (k ∷ ks) [] [] (k ∷ ks)) (s.inner ∷ s.around)) (at (in_rows (k ∷ ks) (items us) [] (k ∷ ks)) (s.inner ∷ s.around))
      (rows_made rs h.1 k ks us [] (s.inner ∷ s.around) h.0 some)
      ∙ ap (λ v. give (array v) s) (items_back us) ∙ ap (λ v. give v s) same

  items_made : (ts : Items) → ItemsHaveWholeRows ts → (us : Items) (done : List Tree) (os : List Open) → normal_items (expand_items ts) ≡ Some us
      → makes (item_events ts) (at (in_array done) os) ≡ Some (at (in_array (done ++ items us)) os)
  items_made no_items h us done os e =
      ap (λ l. Some (at (in_array l) os)) (sym (append-nil done)) ∙ ap (λ v. Some (at (in_array (done ++ items v)) os)) (same_Some no_items us e)
  items_made (item t ts) h us done os e =
      then_some _ (normal (expand t)) us e λ u first next. map_some (item u) (normal_items (expand_items ts)) us next λ vs rest same.
      then_makes (events.events t) (item_events ts) (at (in_array done) os) (Some (at (in_array (done ++ u ∷ [])) os)) (made t h.0 u (at (in_array done) os) first)
      ∙ items_made ts h.1 vs (done ++ u ∷ []) os rest
      ∙ ap (λ l. Some (at (in_array l) os)) (append_assoc done (u ∷ []) (items vs)) ∙ ap (λ v. Some (at (in_array (done ++ items v)) os)) same

  entries_made : (es : trees.Entries) → EntriesHaveWholeRows es → (m acc : Entries) (os : List Open) → normal_entries (expand_entries es) ≡ Some m
      → makes (entry_events es) (at (in_object acc None) os) ≡ Some (at (in_object (put_all acc m) None) os)
  entries_made no_entries h m acc os e = ap (λ l. Some (at (in_object (put_all acc l) None) os)) (same_Some [] m e)
  entries_made (entry k t es) h m acc os e =
      then_some _ (normal (expand t)) m (guard_some (is_utf8 k) _ m e) λ u first next. map_some (λ l. (k, u) ∷ l) (normal_entries (expand_entries es)) m next λ l rest same.
      then_makes (events.events t) (entry_events es) (at (in_object acc (Some k)) os) (Some (at (in_object (with_entry acc k u) None) os)) (made t h.0 u (at (in_object acc (Some k)) os) first)
      ∙ entries_made es h.1 l (with_entry acc k u) os rest
      ∙ ap (λ x. Some (at (in_object (put_all acc x) None) os)) same

  rows_made : (rs : Rows) → RowsHaveWholeRows rs → (k : List ℕ) (ks : List (List ℕ)) (us : Items) (done : List Tree) (os : List Open)
      → AllByRecursion (λ r. length r ≡ suc (length ks)) (rows rs) → normal_items (expand_rows (k ∷ ks) rs) ≡ Some us
      → makes (row_events rs) (at (in_rows (k ∷ ks) done [] (k ∷ ks)) os) ≡ Some (at (in_rows (k ∷ ks) (done ++ items us) [] (k ∷ ks)) os)
  rows_made no_rows h k ks us done os even e =
      ap (λ l. Some (at (in_rows (k ∷ ks) l [] (k ∷ ks)) os)) (sym (append-nil done)) ∙ ap (λ v. Some (at (in_rows (k ∷ ks) (done ++ items v) [] (k ∷ ks)) os)) (same_Some no_items us e)
  rows_made (row fs rs) h k ks us done os even e =
      then_some _ (normal (object (expand_fields (k ∷ ks) fs))) us e λ u first next. map_some (item u) (normal_items (expand_rows (k ∷ ks) rs)) us next λ vs rest same.
      map_some (λ m. object (entries_of (last_entries m))) (normal_entries (expand_fields (k ∷ ks) fs)) u first λ m some one.
      then_makes (field_events fs) (row_events rs) (at (in_rows (k ∷ ks) done [] (k ∷ ks)) os) (Some (at (in_rows (k ∷ ks) (done ++ u ∷ []) [] (k ∷ ks)) os))
      (fields_made fs h.0 k ks m [] (k ∷ ks) done os even.0 some ∙ ap (λ v. Some (at (in_rows (k ∷ ks) (done ++ v ∷ []) [] (k ∷ ks)) os)) one)
      ∙ rows_made rs h.1 k ks vs (done ++ u ∷ []) os even.1 rest
      ∙ ap (λ l. Some (at (in_rows (k ∷ ks) l [] (k ∷ ks)) os)) (append_assoc done (u ∷ []) (items vs)) ∙ ap (λ v. Some (at (in_rows (k ∷ ks) (done ++ items v) [] (k ∷ ks)) os)) same

  fields_made : (fs : Fields) → FieldsHaveWholeRows fs → FieldsMake fs
  fields_made no_fields h k ls m acc ks done os even e = absurd (omega (arith, even))
  fields_made (skip fs) h k ls m acc ks done os even e =
      map_some (λ l. (k, null) ∷ l) (normal_entries (expand_fields ls fs)) m (guard_some (is_utf8 k) _ m e) λ l rest same.
      fields_after fs (fields_made fs h) null k ls l acc ks done os (omega (arith, even)) rest
      ∙ ap (λ x. Some (at (in_rows ks (done ++ object (entries_of (put_all acc x)) ∷ []) [] ks) os)) same
  fields_made (field t fs) h k ls m acc ks done os even e =
      then_some _ (normal (expand t)) m (guard_some (is_utf8 k) _ m e) λ u first next. map_some (λ l. (k, u) ∷ l) (normal_entries (expand_fields ls fs)) m next λ l rest same.
      then_makes (events.events t) (field_events fs) (at (in_rows ks done acc (k ∷ ls)) os) (give u (at (in_rows ks done acc (k ∷ ls)) os)) (made t h.0 u (at (in_rows ks done acc (k ∷ ls)) os) first)
      ∙ fields_after fs (fields_made fs h.1) u k ls l acc ks done os (omega (arith, even)) rest
      ∙ ap (λ x. Some (at (in_rows ks (done ++ object (entries_of (put_all acc x)) ∷ []) [] ks) os)) same
