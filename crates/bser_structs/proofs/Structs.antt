-- A struct that is read entry by entry.
use Rattle.std.proofs.Common.{◌≡◌, ℕ, zero, suc, ◌<◌, Bool, true, false, List, [], ◌∷◌, map, Option, Some, None, option_and_then, option_map, refl, sym, ap, subst, ◌∙◌, arith}
use Rattle.std.specs.Prelude.{if◌then◌else◌}
use Rattle.std.specs.Str.{is_utf8}
use Rattle.bser_format.specs.Tree.{Tree, null, boolean, integer, real, bytes, text, array, object, template, Entries, no_entries, entry, entries}
use Rattle.bser_format.specs.Expand.{key_tree}
use Rattle.bser_format.specs.Content.{Content, one, byte_list, Meaning, each_some}
use Rattle.bser_format.specs.ReadsScalars.{reads_string, utf8_of}
use Rattle.bser_format.specs.ReadsHolders.{list_of}
use Rattle.bser_format.specs.Expected.{Fills, FillsPairs, WantedPairs, entries_of_object, fields_of_row, key_due, name_due}
use Rattle.bser_format.specs.declared.errors.Error.{Error}
use Rattle.bser_format.specs.declared.errors.Complaint.TheVariants.{TooFewItems}
use Rattle.bser_source.specs.Device.{one_more}
use Rattle.bser_format.specs.Named.{Reader, refuses, and_then, give, complain}
use Rattle.bser_format.specs.DueReaders.{asked, pairs_at}
use Rattle.bser_format.specs.Asks.{Asks, Field, inside, value_by, struct_asked}
use Rattle.bser_format.specs.Clauses.{after_a_refusal}
use Rattle.bser_format.specs.TypeLaws.{PassEach}
use Rattle.bser_format.proofs.Steps.{Continues, first_read}
use Rattle.bser_source.specs.Window.{Took}
use Rattle.bser_deserializer.specs.Askings.{asking_string}
use Rattle.bser_deserializer.specs.State.{State, awaiting, past, refused}
use Rattle.bser_deserializer.specs.Reading.{Answers, Asking, NamesAsked, Refuses, bare, Needs}
use Rattle.bser_deserializer.specs.Parts.{BeginsPairs, pairs_left, pair_key, pair_value, pairs_after}
use Rattle.bser_deserializer.specs.Access.{OpenPairs, OpensPairs, RefusesPairs, IsKey, IsValue, ClosesPairs, pairs_in}
use Rattle.bser_deserializer.specs.Fields.{field_of, HoldsField}
use Rattle.bser_deserializer.specs.declared.field.Field as field
use Rattle.bser_deserializer.proofs.Refusals.{names_by_untaken, unfit_here}
use Rattle.bser_deserializer.proofs.Containers.{pairs_pass}
use Rattle.bser_deserializer.proofs.Texts.{took_nothing}
use Rattle.bser_format.proofs.Options.{chained, when_some}
use Rattle.bser_types.specs.Askings.{counted}
use Rattle.bser_types.specs.Fold.{folds, comes_to, step_by_name}
use Rattle.bser_types.specs.Slots.{StructField, fill_field, field_at_end, all_at_end, reads_struct, FillsStep}
use Rattle.bser_types.proofs.Naming.{Asked, StepAsked, HeadAsked, FirstAsked, NoneAsked, none_named}
use Rattle.bser_types.proofs.Objects.{Outlook, ValueLeft, PairsLeft, ReadsObjects, ReadsKeys, AtKey, AtValue, key_name, key_read, inside_start, inside_key, inside_value, inside_end, opening_refused, key_refused, part_refused}
use Rattle.bser_structs.specs.Asked.{asked_fields, place_known}
use Rattle.bser_structs.specs.Askings.{AllAsked, asking_fields}
use Rattle.bser_structs.specs.FieldCalls.{MakesStep, RefusesStep, NamesFields}
use Rattle.bser_structs.proofs.Left.{counted_each, by_passed, by_alike, by_refused, value_asked, key_passed, key_first, absent_refused}
use Rattle.bser_structs.proofs.Places.{complaint_kind, complaint_first}

-- ---- a key that is read as a text

utf8_key : (b : Bool) (name : List ℕ) (c : Content) → b ≡ is_utf8 name → option_map byte_list (utf8_of (if b then text name else bytes name)) ≡ Some c → (b ≡ true) × (c ≡ byte_list name)
utf8_key true name c e h = (refl, cc)
utf8_key false name c e h = absurd (let f : option_map byte_list (if is_utf8 name then Some name else None) ≡ None = rw (sym e) refl in cc)

text_key : (b : Bool) (name : List ℕ) → b ≡ true → option_map byte_list (utf8_of (if b then text name else bytes name)) ≡ Some (byte_list name)
text_key true name e = refl
text_key false name e = absurd cc

same_text : (name other : List ℕ) → byte_list name ≡ byte_list other → name ≡ other
same_text name other e = cc

-- what was taken as a key is the key of its name
key_filled : (n : ℕ) (w : WantedPairs) (t : Tree) (taken : List ℕ) (c : Content) (name : List ℕ) → Fills n (pair_key w) t taken → reads_string t ≡ Some c → c ≡ byte_list name → Fills n (pair_key w) (key_tree name) taken
key_filled n (entries_of_object k) t taken c name f read held =
    let p = utf8_key (is_utf8 f.key) f.key c refl (ap reads_string (sym f.stands) ∙ read) in
    let same : f.key ≡ name = same_text f.key name (sym p.1 ∙ held) in
    record { key = f.key; stands = ap key_tree (sym same); spelled = f.spelled }
key_filled n (fields_of_row []) t taken c name f read held = absurd f
key_filled n (fields_of_row (k ∷ ks)) t taken c name f read held =
    let p = utf8_key (is_utf8 k) k c refl (ap reads_string (sym f.0) ∙ read) in
    let same : k ≡ name = same_text k name (sym p.1 ∙ held) in
    (ap key_tree (sym same), f.1)

-- ---- the key of a row's field

some_named : (w : WantedPairs) (name : List ℕ) → pair_key w ≡ name_due name → 0 < pairs_left w
some_named (entries_of_object k) name e = absurd cc
some_named (fields_of_row []) name e = absurd cc
some_named (fields_of_row (k ∷ ks)) name e = omega arith

-- the open row after a key was looked at
abbrev pub after_key : OpenPairs → State → OpenPairs
after_key u s = pairs_in u s (pairs_after u.wanted) true

-- a row's key is read without a byte
pub row_key : (names : List (List ℕ)) (f : field.Field) (u : OpenPairs) (name : List ℕ) → u.pending ≡ false → u.state.source.failed ≡ false → pair_key u.wanted ≡ name_due name → is_utf8 name ≡ true → f ≡ field_of names name
    → IsKey reads_string (HoldsField names) u (after_key u (past (awaiting (pair_key u.wanted) u.state) u.state.source)) f
row_key names f u name read working due good found = record {
  read = read;
  counted = some_named u.wanted name due;
  answers = record {
    tree = key_tree name;
    content = byte_list name;
    text = [];
    filled = subst (λ d. Fills u.state.levels d (key_tree name) []) (sym due) (refl, refl);
    read = text_key (is_utf8 name) name good;
    held = (name, refl, found);
    took = took_nothing u.state.source working;
    state = refl;
  };
  after = refl;
}

-- ---- what is left to be asked for

none_left : (n : ℕ) (w : WantedPairs) (us : Entries) (taken : List ℕ) → pairs_left w ≡ 0 → FillsPairs n w us taken → entries us ≡ []
none_left n (entries_of_object k) no_entries taken e h = refl
none_left n (entries_of_object k) (entry name t us) taken e h = absurd (omega (arith, e, h.0))
none_left n (fields_of_row []) no_entries taken e h = refl
none_left n (fields_of_row []) (entry name t us) taken e (names, h) = absurd cc
none_left n (fields_of_row (k ∷ ks)) us taken e h = absurd (omega (arith, e))

-- the entries that are left of a struct that was opened in the state o, where its fields tell
abbrev pub struct_now : {start : List StructField} → Option (AllAsked start) → List (List ℕ) → List StructField → State → WantedPairs → Reader Unit
struct_now None names ss o w = give tt
struct_now (Some r) names ss o w = struct_asked names (asked_fields (map counted r.asks) ss) (suc o.opened) (inside w o.levels) w

-- the value of this field, and then the entries that are left
abbrev pub value_now : {start : List StructField} → Option (AllAsked start) → List (List ℕ) → List StructField → field.Field → State → WantedPairs → Reader Unit
value_now None names ss f o w = give tt
value_now (Some r) names ss f o w = value_asked names (asked_fields (map counted r.asks) ss) f (suc o.opened) (inside w o.levels) w

-- fields of the same types
abbrev pub Alike : List StructField → List StructField → Type 0
Alike ss start = map (λ s. s.reads) ss ≡ map (λ s. s.reads) start

same_inside : (w : WantedPairs) (n : ℕ) → inside (pairs_after w) n ≡ inside w n
same_inside (entries_of_object k) n = refl
same_inside (fields_of_row ks) n = refl

fit_now : (As : List Asks) (start ss : List StructField) → Alike ss start → PassEach As (map (λ s. s.reads) start) → PassEach (map counted As) (map (λ s. s.reads) ss)
fit_now As start ss same fit = subst (PassEach (map counted As)) (sym same) (counted_each As (map (λ s. s.reads) start) fit)

module _ (names : List (List ℕ)) (start : List StructField) (tells : Option (AllAsked start)) where
  abbrev meaning : Meaning
  meaning = reads_struct names start

  abbrev asks : Option (Asking (reads_struct names start))
  asks = option_map (asking_fields names {ss = start}) tells

  -- what the entries that are left come to
  abbrev pub outlook : List StructField → Outlook
  outlook = comes_to (step_by_name names fill_field) all_at_end

  reads_objects : ReadsObjects (reads_struct names start) (outlook start)
  reads_objects = record { same = λ us. refl; only = only }
    where
      only : (t : Tree) (c : Content) → reads_struct names start t ≡ Some c → (us : Entries) × (t ≡ object us)
      only null c h = absurd cc
      only (boolean v) c h = absurd cc
      only (integer v) c h = absurd cc
      only (real v) c h = absurd cc
      only (bytes v) c h = absurd cc
      only (text v) c h = absurd cc
      only (array v) c h = absurd cc
      only (object us) c h = (us, refl)
      only (template ks rs) c h = absurd cc

  -- what was read of the struct that was due in the state o comes to these fields
  pub record AtField (o : State) (ss : List StructField) (u : OpenPairs) : Type 0 where
    pub inside : AtKey (reads_struct names start) (option_map (asking_fields names {ss = start}) tells) o (outlook ss) (struct_now tells names ss o u.wanted) u
    pub pending : u.pending ≡ false
    pub alike : Alike ss start

  -- the same, after the name of a field
  pub record AtFieldValue (o : State) (ss : List StructField) (f : field.Field) (u : OpenPairs) : Type 0 where
    pub name : List ℕ
    pub utf8 : is_utf8 name ≡ true
    pub found : f ≡ field_of names name
    pub inside : AtValue (reads_struct names start) (option_map (asking_fields names {ss = start}) tells) o (outlook ss) name (value_now tells names ss f o u.wanted) u
    pub pending : u.pending ≡ true
    pub alike : Alike ss start

  -- ---- what is read

  begun : (r : Option (AllAsked start)) (o : State) (w : WantedPairs) (taken : List ℕ) → BeginsPairs o.levels o.due w taken → Asked (option_map (asking_fields names {ss = start}) r) o (struct_now r names start o w) taken
  begun None o w taken head = tt
  begun (Some r) o w taken head =
      first_read (asked (pairs_at o.levels) o.opened o.due) (λ v. struct_asked names (asked_fields (map counted r.asks) start) (suc o.opened) (inside v o.levels) v) w taken (pairs_pass o.opened o.levels o.due w taken head)

  pub struct_start : (o : State) (u : OpenPairs) → OpensPairs o u → AtField o start u
  struct_start o u opens = record {
    inside = inside_start meaning asks (outlook start) (struct_now tells names start o u.wanted) o u reads_objects opens (begun tells o u.wanted opens.text opens.head);
    pending = opens.pending;
    alike = refl;
  }

  key_step : (r : Option (AllAsked start)) (o : State) (ss : List StructField) (f : field.Field) (n : ℕ) (w v : WantedPairs) (name taken : List ℕ) → v ≡ pairs_after w → 0 < pairs_left w → Fills n (pair_key w) (key_tree name) taken → is_utf8 name ≡ true → f ≡ field_of names name
      → StepAsked (option_map (asking_fields names {ss = start}) r) (struct_now r names ss o w) (value_now r names ss f o v) taken
  key_step None o ss f n w v name taken after some filled good found = tt
  key_step (Some r) o ss f n w v name taken after some filled good found =
      subst (λ z. Continues (struct_now (Some r) names ss o w) (value_now (Some r) names ss f o z) taken) (sym after)
      (subst (λ m. Continues (struct_now (Some r) names ss o w) (value_asked names (asked_fields (map counted r.asks) ss) f (suc o.opened) m (pairs_after w)) taken) (sym (same_inside w o.levels))
      (key_passed names (asked_fields (map counted r.asks) ss) f (suc o.opened) (inside w o.levels) n w name taken some filled good found))

  pub struct_field : (o : State) (ss : List StructField) (f : field.Field) (u t : OpenPairs) → AtField o ss u → IsKey reads_string (HoldsField names) u t f → AtFieldValue o ss f t
  struct_field o ss f u t h key =
      let a = key.answers in
      let name = key_name reads_string (HoldsField names) u t f key in
      let p = utf8_key (is_utf8 name) name a.content refl (key_read reads_string (HoldsField names) u t f key) in
      let same : a.held.0 ≡ name = same_text a.held.0 name (sym a.held.1 ∙ p.1) in
      let found : f ≡ field_of names name = a.held.2 ∙ ap (field_of names) same in
      let filled = key_filled u.state.levels u.wanted a.tree a.text a.content name a.filled a.read p.1 in
      record {
        name = name;
        utf8 = p.0;
        found = found;
        inside = inside_key reads_string (HoldsField names) meaning asks (outlook ss) (struct_now tells names ss o u.wanted) (value_now tells names ss f o t.wanted) o u t f h.inside key
            (key_step tells o ss f u.state.levels u.wanted t.wanted name a.text (ap (λ (p : OpenPairs). p.wanted) key.after) key.counted filled p.0 found);
        pending = ap (λ (z : OpenPairs). z.pending) key.after;
        alike = h.alike;
      }

  -- the step that a field makes
  made : (ss : List StructField) (f : field.Field) (name : List ℕ) (t : Tree) (es : List (List ℕ × Tree)) → is_utf8 name ≡ true → f ≡ field_of names name
      → outlook ss ((name, t) ∷ es) ≡ option_and_then all_at_end (option_and_then (λ b. folds (step_by_name names fill_field) b es) (fill_field ss f t))
  made ss f name t es utf8 found = rw (utf8, found) refl

  value_step : (r : Option (AllAsked start)) (o i : State) (ss next : List StructField) (f : field.Field) (w : WantedPairs) (tree : Tree) (taken : List ℕ) → i.levels ≡ inside w o.levels → Alike ss start → Fills i.levels (pair_value w) tree taken → fill_field ss f tree ≡ Some next
      → StepAsked (option_map (asking_fields names {ss = start}) r) (value_now r names ss f o w) (struct_now r names next o w) taken
  value_step None o i ss next f w tree taken levels alike filled step = tt
  value_step (Some r) o i ss next f w tree taken levels alike filled step =
      first_read (value_by (place_known f) (asked_fields (map counted r.asks) ss) (suc o.opened) (inside w o.levels) (pair_value w)) (λ more. struct_asked names more (suc o.opened) (inside w o.levels) w) (asked_fields (map counted r.asks) next) taken
      (by_passed f (map counted r.asks) ss (fit_now r.asks start ss alike r.passes) (suc o.opened) (inside w o.levels) (pair_value w) tree next taken (subst (λ n. Fills n (pair_value w) tree taken) levels filled) step)

  -- the value of a field was taken, by which its step leads on
  pub struct_step : (o z : State) (ss : List StructField) (f : field.Field) (u : OpenPairs) (keeps : List StructField → Type 0) → AtFieldValue o ss f u → (s : MakesStep (λ b. fill_field b f) keeps ss (awaiting (pair_value u.wanted) u.state) z)
      → AtField o s.next (pairs_in u z u.wanted false)
  struct_step o z ss f u keeps h s =
      let t : OpenPairs = pairs_in u z u.wanted false in
      let value : IsValue (λ v. Some one) (λ (v : Unit {0}) c. Unit {0}) u t tt = record {
        key = h.pending;
        answers = record { tree = s.tree; content = one; text = s.text; filled = s.filled; read = refl; held = tt; took = s.took; state = s.state };
        after = refl;
      } in
      record {
        inside = inside_value (λ v. Some one) (λ (v : Unit {0}) c. Unit {0}) meaning asks (outlook ss) (outlook s.next) h.name (value_now tells names ss f o u.wanted) (struct_now tells names s.next o u.wanted) o u t tt h.inside value
            (λ es. made ss f h.name s.tree es h.utf8 h.found ∙ ap (λ x. option_and_then all_at_end (option_and_then (λ b. folds (step_by_name names fill_field) b es) x)) s.made)
            (value_step tells o u.state ss s.next f u.wanted s.tree s.text h.inside.inner_levels h.alike s.filled s.made);
        pending = refl;
        alike = by_alike f ss s.tree s.next s.made ∙ h.alike;
      }

  pub struct_end : {V : Type 0} (holds : V → Content → Type 0) (o z : State) (ss : List StructField) (u : OpenPairs) (c : Content) (v : V) → AtField o ss u → ClosesPairs u z → all_at_end ss ≡ Some c → holds v c → Answers (reads_struct names start) holds o z v
  struct_end holds o z ss u c v h closes read held =
      inside_end holds meaning asks (outlook ss) (struct_now tells names ss o u.wanted) o z u c v h.inside closes read held

  -- ---- what is refused

  head_asked : (r : Option (AllAsked start)) (o : State) → HeadAsked (option_map (asking_fields names {ss = start}) r) o (asked (pairs_at o.levels) o.opened o.due)
  head_asked None o = tt
  head_asked (Some r) o = λ x e h. ap (and_then (λ v. struct_asked names (asked_fields (map counted r.asks) start) (suc o.opened) (inside v o.levels) v)) h

  pub struct_refused : (needs : Needs) (e : Error) (o z : State) → RefusesPairs e o z → Refuses (reads_struct names start) (option_map (asking_fields names {ss = start}) tells) needs e o z
  struct_refused needs e o z u = opening_refused meaning asks (outlook start) needs e o z reads_objects (head_asked tells o) u

  reads_names : (ss : List StructField) → ReadsKeys reads_string (outlook ss)
  reads_names ss name t es c h =
      let p = chained all_at_end (folds (step_by_name names fill_field) ss ((name, t) ∷ es)) c h in
      let q = chained (λ b. folds (step_by_name names fill_field) b es) (step_by_name names fill_field ss name t) p.0 p.1 in
      let r = when_some (is_utf8 name) (fill_field ss (field_of names name) t) q.0 q.1 in
      (byte_list name, text_key (is_utf8 name) name r.0)

  first_name : (r : Option (AllAsked start)) (o i : State) (ss : List StructField) (k : ℕ) → 0 < k → FirstAsked (option_map (asking_fields names {ss = start}) r) (Some asking_string) (awaiting key_due i) (struct_now r names ss o (entries_of_object k))
  first_name None o i ss k some = tt
  first_name (Some r) o i ss k some = λ x e h. key_first names (asked_fields (map counted r.asks) ss) (suc o.opened) i.opened (inside (entries_of_object k) o.levels) i.levels k x e some h

  -- the name of an object's field is refused
  pub name_refused : (needs : Needs) (e : Error) (o z : State) (ss : List StructField) (u : OpenPairs) (k : ℕ) → AtField o ss u → u.wanted ≡ entries_of_object k → 0 < k → Refuses reads_string (Some asking_string) bare e (awaiting key_due u.state) z
      → Refuses (reads_struct names start) (option_map (asking_fields names {ss = start}) tells) needs e o z
  name_refused needs e o z ss u k h wanted some is =
      let due : pair_key u.wanted ≡ key_due = ap pair_key wanted in
      let left : 0 < pairs_left u.wanted = subst (λ w. 0 < pairs_left w) (sym wanted) some in
      key_refused reads_string (Some asking_string) bare needs meaning asks (outlook ss) (struct_now tells names ss o u.wanted) e o z u (λ b. absurd cc) (λ b. absurd cc) (λ b. absurd cc) (reads_names ss) h.inside h.pending
      (λ more. subst (λ w. FirstAsked (option_map (asking_fields names {ss = start}) tells) (Some asking_string) (awaiting (pair_key w) u.state) (struct_now tells names ss o w)) (sym wanted) (first_name tells o u.state ss k some))
      (record {
        counted = λ working read. left;
        refuses = λ read. subst (λ d. Refuses reads_string (Some asking_string) bare e (awaiting d u.state) z) (sym due) is;
        turn = λ pending. absurd (let p = h.pending in cc);
      })

  value_named : (r : Option (AllAsked start)) (needs : Needs) (e : Error) (o i : State) (ss : List StructField) (f : field.Field) (w : WantedPairs) (taken : List ℕ) → i.opened ≡ one_more o.opened → i.levels ≡ inside w o.levels
      → Asked (option_map (asking_fields names {ss = start}) r) o (value_now r names ss f o w) taken → Took o.source i.source taken → NamesFields needs r (place_known f) e ss (awaiting (pair_value w) i) → NamesAsked needs (option_map (asking_fields names {ss = start}) r) e o
  value_named None needs e o i ss f w taken opened levels so took name = tt
  value_named (Some r) needs e o i ss f w taken opened levels so took name =
      names_by_untaken needs ((asking_fields names r).asks o.opened o.levels o.due) (value_by (place_known f) (asked_fields r.asks ss) i.opened i.levels (pair_value w)) e o.source i.source taken
      (λ g x h. so x ∙ ap (and_then (λ more. struct_asked names more (suc o.opened) (inside w o.levels) w))
      (by_refused f r.asks ss o.opened (inside w o.levels) w x g (sym (ap (λ p. value_by (place_known f) (asked_fields r.asks ss) p i.levels (pair_value w) x) opened ∙ ap (λ m. value_by (place_known f) (asked_fields r.asks ss) (one_more o.opened) m (pair_value w) x) levels) ∙ h)))
      took name

  -- the value of a field is refused, by which its step leads on
  pub step_refused : (needs : Needs) (e : Error) (o z : State) (ss : List StructField) (f : field.Field) (u : OpenPairs) → AtFieldValue o ss f u
      → RefusesStep (λ b. fill_field b f) needs (NamesFields needs tells (place_known f) e ss (awaiting (pair_value u.wanted) u.state)) e ss (awaiting (pair_value u.wanted) u.state) z
      → Refuses (reads_struct names start) (option_map (asking_fields names {ss = start}) tells) needs e o z
  step_refused needs e o z ss f u h is =
      part_refused needs meaning asks (ValueLeft (outlook ss) h.name u.state.levels u.wanted) (value_now tells names ss f o u.wanted) (FillsStep (λ b. fill_field b f) ss (awaiting (pair_value u.wanted) u.state)) (NamesFields needs tells (place_known f) e ss (awaiting (pair_value u.wanted) u.state)) e o z u h.inside
      (λ c text v.
      let p = chained all_at_end (option_and_then (λ b. folds (step_by_name names fill_field) b (entries v.parts)) (fill_field ss f v.value)) c (sym (made ss f h.name v.value (entries v.parts) h.utf8 h.found) ∙ v.read) in
      let q = chained (λ b. folds (step_by_name names fill_field) b (entries v.parts)) (fill_field ss f v.value) p.0 p.1 in
      (v.filled.front, v.filled.rest, v.filled.whole, record { tree = v.value; next = q.0; made = q.1; filled = v.filled.first }))
      (value_named tells needs e o u.state ss f u.wanted h.inside.taken h.inside.inner_opened h.inside.inner_levels h.inside.asked h.inside.took) is

  absent_asked : (r : Option (AllAsked start)) (e : Error) (o : State) (ss : List StructField) (w : WantedPairs) → pairs_left w ≡ 0 → Alike ss start → each_some field_at_end ss ≡ None → e ≡ complain TooFewItems → NoneAsked (option_map (asking_fields names {ss = start}) r) (struct_now r names ss o w) e
  absent_asked None e o ss w over alike none is = tt
  absent_asked (Some r) e o ss w over alike none is = λ x. at w over x ∙ ap refuses (sym is)
    where
      fs : List Field
      fs = asked_fields (map counted r.asks) ss

      at : (w : WantedPairs) → pairs_left w ≡ 0 → (x : List ℕ) → struct_asked names fs (suc o.opened) (inside w o.levels) w x ≡ refuses (complain TooFewItems)
      at (entries_of_object zero) over x = absent_refused (map counted r.asks) ss (fit_now r.asks start ss alike r.passes) none x
      at (entries_of_object (suc k)) over x = absurd (omega (arith, over))
      at (fields_of_row []) over x = absent_refused (map counted r.asks) ss (fit_now r.asks start ss alike r.passes) none x
      at (fields_of_row (k ∷ ks)) over x = absurd (omega (arith, over))

  -- all entries were read, and a field is absent that has to be there
  pub field_absent : (needs : Needs) (e : Error) (o z : State) (ss : List StructField) (u : OpenPairs) → AtField o ss u → pairs_left u.wanted ≡ 0 → each_some field_at_end ss ≡ None → e ≡ after_a_refusal u.state.source.failed (complain TooFewItems) → z ≡ refused u.state
      → Refuses (reads_struct names start) (option_map (asking_fields names {ss = start}) tells) needs e o z
  field_absent needs e o z ss u h over none name closes =
      let is : e ≡ complain TooFewItems = name ∙ ap (λ b. after_a_refusal b (complain TooFewItems)) h.inside.took.failed in
      part_refused needs meaning asks (PairsLeft (outlook ss) u.state.levels u.wanted) (struct_now tells names ss o u.wanted) (λ text. ⊥) (Unit {0}) e o z u h.inside
      (λ c text v.
      let gone : all_at_end ss ≡ Some c = ap (outlook ss) (sym (none_left u.state.levels u.wanted v.parts text over v.filled)) ∙ v.read in
      let both : None ≡ Some c = sym (ap (option_map list_of) none) ∙ gone in
      absurd cc)
      (λ t. none_named meaning asks needs e o u.state.source (struct_now tells names ss o u.wanted) h.inside.taken h.inside.asked h.inside.took (absent_asked tells e o ss u.wanted over h.alike none is))
      (unfit_here needs (λ text. ⊥) (Unit {0}) e u.state.source z.source (complaint_kind u.state.source.failed (complain TooFewItems) e tt name) (complaint_first u.state.source.failed (complain TooFewItems) e name) (ap (λ (y : State). y.source) closes) tt (λ text f. f))
