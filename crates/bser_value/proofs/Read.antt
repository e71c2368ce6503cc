-- What was told of a value is read as one.
use Rattle.std.proofs.Common.{◌≡◌, ℕ, Bool, true, false, cond, ◌&&◌, List, [], ◌∷◌, Option, Some, None, option_map, option_and_then, refl, sym, ap, ◌∙◌}
use Rattle.std.proofs.lemmas.Option.{same_Some}
use Rattle.std.specs.Str.{is_utf8}
use Rattle.bser_format.specs.Tree.{Tree, null, boolean, integer, real, bytes, text, array, object, template, Items, no_items, item, Entries, no_entries, entry, entries_of, Rows, no_rows, row, Fields, no_fields, skip, field}
use Rattle.bser_format.specs.Expand.{expand, expand_items, expand_entries, expand_rows, expand_fields}
use Rattle.bser_format.specs.Normal.{normal, normal_items, normal_entries, last_entries}
use Rattle.bser_format.specs.Content.{value}
use Rattle.bser_format.specs.ReadsAny.{has_utf8_keys, items_have_utf8_keys, entries_have_utf8_keys, reads_value, reads_ignored}
use Rattle.bser_format.specs.declared.errors.Error.{Error}
use Rattle.bser_format.proofs.Settled.{filled_settles}
use Rattle.bser_events.specs.Events.{events}
use Rattle.bser_format.specs.Asks.{asks_any}
use Rattle.bser_format.proofs.Anything.{value_passes}
use Rattle.bser_deserializer.specs.State.{State}
use Rattle.bser_deserializer.specs.Reading.{Answers, Refuses, FillsReadably, owned}
use Rattle.bser_deserializer.specs.Askings.{asking_ignored, asking_value}
use Rattle.bser_deserializer.proofs.Clean.{clean_any}
use Rattle.bser_deserializer.proofs.Refusals.{by_name}
use Rattle.bser_deserializer.specs.Any.{TookAny}
use Rattle.bser_value.specs.Made.{unread, read_as}
use Rattle.bser_value.specs.Shows.{Shows, Takes}
use Rattle.bser_value.specs.ValueView.{tree_of, HoldsValue}
use Rattle.bser_value.specs.declared.value.Value.{Value}
use Rattle.bser_value.specs.declared.builder.ValueBuilder.{ValueBuilder}
use Rattle.bser_value.proofs.Made.{made}
use Rattle.bser_value.proofs.Steps.{all_taken}

-- ---- a tree whose keys are UTF-8 reads as a value

both : (a b : Bool) → (a && b) ≡ true → (a ≡ true) × (b ≡ true)
both true b e = (refl, e)
both false b e = absurd cc

-- an entry, and those after it
one_more : (k : List ℕ) (t u : Tree) (o : Option (List (List ℕ × Tree))) (m : List (List ℕ × Tree)) → is_utf8 k ≡ true → normal t ≡ Some u → o ≡ Some m
    → cond (is_utf8 k) (option_and_then (λ w. option_map (λ l. (k, w) ∷ l) o) (normal t)) None ≡ Some ((k, u) ∷ m)
one_more k t u o m utf8 first rest =
    ap (λ b. cond b (option_and_then (λ w. option_map (λ l. (k, w) ∷ l) o) (normal t)) None) utf8
    ∙ ap (option_and_then (λ w. option_map (λ l. (k, w) ∷ l) o)) first ∙ ap (option_map (λ l. (k, u) ∷ l)) rest

mutual
  pub value_there : (t : Tree) → has_utf8_keys (expand t) ≡ true → (u : Tree) × (normal (expand t) ≡ Some u)
  value_there null h = (null, refl)
  value_there (boolean x) h = (boolean x, refl)
  value_there (integer x) h = (integer x, refl)
  value_there (real x) h = (real x, refl)
  value_there (bytes x) h = (bytes x, refl)
  value_there (text x) h = (text x, refl)
  value_there (array ts) h = let w = items_there ts h in (array w.0, ap (option_map array) w.1)
  value_there (object es) h = let w = entries_there es h in (object (entries_of (last_entries w.0)), ap (option_map (λ m. object (entries_of (last_entries m)))) w.1)
  value_there (template ks rs) h = let w = rows_there ks rs h in (array w.0, ap (option_map array) w.1)

  items_there : (ts : Items) → items_have_utf8_keys (expand_items ts) ≡ true → (us : Items) × (normal_items (expand_items ts) ≡ Some us)
  items_there no_items h = (no_items, refl)
  items_there (item t ts) h =
      let p = both (has_utf8_keys (expand t)) _ h in
      let a = value_there t p.0 in
      let r = items_there ts p.1 in
      (item a.0 r.0, ap (option_and_then (λ u. option_map (item u) (normal_items (expand_items ts)))) a.1 ∙ ap (option_map (item a.0)) r.1)

  entries_there : (es : Entries) → entries_have_utf8_keys (expand_entries es) ≡ true → (m : List (List ℕ × Tree)) × (normal_entries (expand_entries es) ≡ Some m)
  entries_there no_entries h = ([], refl)
  entries_there (entry k t es) h =
      let p = both (is_utf8 k && has_utf8_keys (expand t)) _ h in
      let q = both (is_utf8 k) _ p.0 in
      let a = value_there t q.1 in
      let r = entries_there es p.1 in
      ((k, a.0) ∷ r.0, one_more k (expand t) a.0 (normal_entries (expand_entries es)) r.0 q.0 a.1 r.1)

  rows_there : (ks : List (List ℕ)) (rs : Rows) → items_have_utf8_keys (expand_rows ks rs) ≡ true → (us : Items) × (normal_items (expand_rows ks rs) ≡ Some us)
  rows_there ks no_rows h = (no_items, refl)
  rows_there ks (row fs rs) h =
      let p = both (entries_have_utf8_keys (expand_fields ks fs)) _ h in
      let a = fields_there ks fs p.0 in
      let r = rows_there ks rs p.1 in
      let o : Tree = object (entries_of (last_entries a.0)) in (
        item o r.0,
        ap (option_and_then (λ u. option_map (item u) (normal_items (expand_rows ks rs)))) (ap (option_map (λ m. object (entries_of (last_entries m)))) a.1) ∙ ap (option_map (item o)) r.1,
      )

  fields_there : (ks : List (List ℕ)) (fs : Fields) → entries_have_utf8_keys (expand_fields ks fs) ≡ true → (m : List (List ℕ × Tree)) × (normal_entries (expand_fields ks fs) ≡ Some m)
  fields_there [] fs h = ([], refl)
  fields_there (k ∷ ks) no_fields h = ([], refl)
  fields_there (k ∷ ks) (skip fs) h =
      let p = both (is_utf8 k && true) _ h in
      let q = both (is_utf8 k) true p.0 in
      let r = fields_there ks fs p.1 in
      ((k, null) ∷ r.0, one_more k null null (normal_entries (expand_fields ks fs)) r.0 q.0 refl r.1)
  fields_there (k ∷ ks) (field t fs) h =
      let p = both (is_utf8 k && has_utf8_keys (expand t)) _ h in
      let q = both (is_utf8 k) _ p.0 in
      let a = value_there t q.1 in
      let r = fields_there ks fs p.1 in
      ((k, a.0) ∷ r.0, one_more k (expand t) a.0 (normal_entries (expand_fields ks fs)) r.0 q.0 a.1 r.1)

-- ---- what was due

-- the value that was told is shown
pub told_shown : (before after : ValueBuilder) (old new : State) → Shows before unread → (k : TookAny Takes before after old new) → (u : Tree) × (normal (expand k.tree) ≡ Some u) × Shows after (read_as u)
told_shown before after old new shows k =
    let w = value_there k.tree k.keys in
    (w.0, w.1, all_taken before (events k.tree) after k.told unread (read_as w.0) shows (made k.tree k.rows w.0 unread w.1))

pub told_read : (before after : ValueBuilder) (old new : State) (r : Option Value) → Shows before unread → TookAny Takes before after old new
    → ((t : Tree) → Shows after (read_as t) → option_map tree_of r ≡ Some t) → (v : Value) → r ≡ Some v → Answers reads_value HoldsValue old new v
told_read before after old new r shows k whole v is =
    let w = told_shown before after old new shows k in
    let same : tree_of v ≡ w.0 = same_Some (tree_of v) w.0 (ap (option_map tree_of) (sym is) ∙ whole w.0 w.2) in
    record {
      tree = expand k.tree;
      content = value w.0;
      text = k.text;
      filled = k.filled;
      read = ap (option_map value) w.1;
      held = record { same = ap value (sym same); tree = filled_settles old.levels old.due (expand k.tree) (tree_of v) k.text k.filled (w.1 ∙ ap Some (sym same)) };
      took = k.took;
      state = k.state;
    }

-- there is a value
pub told_some : (before after : ValueBuilder) (old new : State) (r : Option Value) → Shows before unread → TookAny Takes before after old new
    → ((t : Tree) → Shows after (read_as t) → option_map tree_of r ≡ Some t) → r ≡ None → ⊥
told_some before after old new r shows k whole is =
    let w = told_shown before after old new shows k in
    let e : option_map tree_of None ≡ Some w.0 = ap (option_map tree_of) (sym is) ∙ whole w.0 w.2 in
    cc

-- what is refused whatever it is, is refused as a value
pub value_refused : (e : Error) (old new : State) → Refuses reads_ignored (Some asking_ignored) owned e old new → Refuses reads_value (Some asking_value) owned e old new
value_refused e old new h =
    by_name owned (FillsReadably reads_value old) (asks_any old.opened old.levels old.due) e old.source new.source
    (λ text f. (tt, λ x. value_passes old.opened old.levels old.due f.tree f.content text x f.filled f.read))
    (λ x p. clean_any old.opened old.levels old.due x e p) refl h.fails h.names
