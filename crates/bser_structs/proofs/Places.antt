-- The fields of a struct, each read at most once.
use Rattle.std.proofs.Common.{◌≡◌, ℕ, suc, List, [], ◌∷◌, Option, Some, None, Bool, true, false, cond, option_and_then, option_map, refl, sym, ap, subst, ◌∙◌, ◌||◌}
use Rattle.std.proofs.lemmas.Bool.{or_left, or_right}
use Rattle.std.specs.Option.{is_some}
use Rattle.bser_format.specs.Tree.{Tree}
use Rattle.bser_format.specs.Content.{Content, Meaning, each_some}
use Rattle.bser_format.specs.ReadsAny.{reads_ignored}
use Rattle.bser_format.specs.Expected.{Due}
use Rattle.bser_format.specs.declared.errors.Error.{Error}
use Rattle.bser_format.specs.declared.errors.Error.TheVariants.{DeReaderError}
use Rattle.bser_format.specs.declared.errors.Complaint.TheVariants.{ItemsLeft}
use Rattle.bser_format.specs.declared.errors.ReadCause.TheVariants.{Failed}
use Rattle.bser_format.specs.Named.{Answer, reads, refuses, refuse, give, and_then, ◌>>=◌, complain}
use Rattle.bser_format.specs.Asks.{Asks, value_at, value_by, asks_any}
use Rattle.bser_format.specs.Asks as asks
use Rattle.bser_format.specs.Clauses.{after_a_refusal}
use Rattle.bser_deserializer.specs.Askings.{asking_ignored}
use Rattle.bser_deserializer.specs.Reading.{Answers, Asking, FillsReadably, IsRefusal, NamesAsked, NamesBy, Refuses, owned, Needs}
use Rattle.bser_deserializer.specs.Seen.{Seen}
use Rattle.bser_deserializer.specs.State.{State}
use Rattle.bser_deserializer.specs.declared.field.Field.TheVariants.{Unknown}
use Rattle.bser_deserializer.proofs.Refusals.{names_by_more, narrower, unfit_here}
use Rattle.bser_deserializer.proofs.Tags.{complained_names}
use Rattle.bser_types.proofs.Naming.{names_by_wider}
use Rattle.bser_types.proofs.Taken.{wider_needs}
use Rattle.bser_types.specs.Fold.{read_once}
use Rattle.bser_types.specs.Slots.{StructField, with_found, fill, fill_at, fill_field, field_at_end, any_lent, struct_needs, Keeps, KeepsField, KeepsBoth, FinishesField, FinishesEach, FillsStep}
use Rattle.bser_structs.specs.Absent.{LacksAt}
use Rattle.bser_structs.specs.Asked.{asked_field, asked_fields}
use Rattle.bser_structs.specs.Askings.{AllAsked, joined}
use Rattle.bser_structs.specs.FieldCalls.{ReadsOnce, RefusesOnce, MakesStep, RefusesStep, NamesField, NamesFields}
use Rattle.bser_structs.specs.Structs.{ReadsNew, RefusesFill}

-- ---- parts of a step

-- what a part of a step made
pub part_made : {A B : Type 0} (f : A → B) (o : Option A) (b : B) → option_map f o ≡ Some b → (a : A) × (o ≡ Some a)
part_made f None b h = absurd cc
part_made f (Some a) b h = (a, refl)

-- a field that was read as something was not read before
pub first_time : (s : StructField) (t : Tree) (b : StructField) → fill s t ≡ Some b → (c : Content) × (s.reads t ≡ Some c) × (s.found ≡ None) × (b ≡ with_found s (Some c))
first_time s t b h = at s.found refl h
  where
    read : (o : Option Content) → option_map (with_found s) (option_and_then (λ c. Some (Some c)) o) ≡ Some b → (c : Content) × (o ≡ Some c) × (b ≡ with_found s (Some c))
    read None h = absurd cc
    read (Some c) h = let same : with_found s (Some c) ≡ b = cc in (c, refl, sym same)

    at : (was : Option Content) → s.found ≡ was → option_map (with_found s) (read_once s.reads was t) ≡ Some b → (c : Content) × (s.reads t ≡ Some c) × (s.found ≡ None) × (b ≡ with_found s (Some c))
    at None e h = let r = read (s.reads t) h in (r.0, r.1, e, r.2)
    at (Some c) e h = absurd cc

-- ---- one field

pub nothing_kept : {A : Type 0} (holds : A → Content → Type 0) (v : Option A) (c : Option Content) → v ≡ None → Keeps holds v c → c ≡ None
nothing_kept holds None c e h = h
nothing_kept holds (Some v) c e h = absurd cc

filled_first : (field : StructField) (t : Tree) (c : Content) → field.reads t ≡ Some c → fill (with_found field None) t ≡ Some (with_found field (Some c))
filled_first field t c e = ap (λ o. option_map (with_found field) (option_and_then (λ d. Some (Some d)) o)) e

-- a field was read that was not before
pub slot_read : {A : Type 0} (field : StructField) (holds : A → Content → Type 0) (before after : Option A) (s : StructField) (o z : Seen)
    → ReadsOnce field.reads holds before after o z → KeepsField field holds before s → MakesStep fill (KeepsField field holds after) s o.state z.state
slot_read field holds before after s o z once keeps =
    let a = once.read in
    let same : s ≡ with_found field None = keeps.1 ∙ ap (with_found field) (nothing_kept holds before keeps.0 once.none keeps.2) in
    record {
      tree = a.tree;
      next = with_found field (Some a.content);
      made = ap (λ z. fill z a.tree) same ∙ filled_first field a.tree a.content a.read;
      kept = subst (λ z. KeepsField field holds z (with_found field (Some a.content))) (sym once.some) (Some a.content, refl, (a.content, refl, a.held));
      text = a.text;
      filled = a.filled;
      took = a.took;
      state = a.state;
    }

-- what the type of a field refuses, the field does, where it was not read before
type_refused : (A : Asks) (s : StructField) (o n : ℕ) (x : List ℕ) (e : Error) → (d : Due) → s.found ≡ None → A o n d x ≡ refuses e → value_at 0 (asked_field A s ∷ []) o n d x ≡ refuses e
type_refused A s o n x e d none h =
    ap (λ c. cond (is_some c) (refuse (complain ItemsLeft)) (A o n d >>= λ u. give (record (asked_field A s) { found = true } ∷ [])) x) none
    ∙ ap (and_then (λ u. give (record (asked_field A s) { found = true } ∷ []))) h

-- a field that was read before refuses whatever follows
again_refused : (A : Asks) (s : StructField) (o n : ℕ) (x : List ℕ) (c : Content) → (d : Due) → s.found ≡ Some c → value_at 0 (asked_field A s ∷ []) o n d x ≡ refuses (complain ItemsLeft)
again_refused A s o n x c d some =
    ap (λ c. cond (is_some c) (refuse (complain ItemsLeft)) (A o n d >>= λ u. give (record (asked_field A s) { found = true } ∷ [])) x) some

field_named : (R : Meaning) (tells : Option (Asking R)) (needs : Needs) (e : Error) (s : StructField) (o : State) → s.found ≡ None → NamesAsked needs tells e o → NamesField needs tells e s o
field_named R None needs e s o none n = tt
field_named R (Some a) needs e s o none n =
    names_by_more needs (value_at 0 (asked_field a.asks s ∷ []) o.opened o.levels o.due) (a.asks o.opened o.levels o.due) e o.source
    (λ f x h. type_refused a.asks s o.opened o.levels x f o.due none h) n

again_named : (R : Meaning) (tells : Option (Asking R)) (needs : Needs) (e : Error) (s : StructField) (o : State) (c : Content) → s.found ≡ Some c → e ≡ after_a_refusal o.source.failed (complain ItemsLeft) → NamesField needs tells e s o
again_named R None needs e s o c some name = tt
again_named R (Some a) needs e s o c some name =
    complained_names needs (value_at 0 (asked_field a.asks s ∷ []) o.opened o.levels o.due) (complain ItemsLeft) e o.source name
    (λ x. again_refused a.asks s o.opened o.levels x c o.due some)

-- a complaint, or what comes after a refusal
pub complaint_kind : (failed : Bool) (f e : Error) → IsRefusal f → e ≡ after_a_refusal failed f → IsRefusal e
complaint_kind true f e kind same = subst IsRefusal (sym same) tt
complaint_kind false f e kind same = subst IsRefusal (sym same) kind

pub complaint_first : (failed : Bool) (f e : Error) → e ≡ after_a_refusal failed f → failed ≡ true → e ≡ DeReaderError Failed
complaint_first true f e same h = same
complaint_first false f e same h = absurd cc

-- a field's value is refused, or there is one already
pub slot_refused : {A : Type 0} (field : StructField) (holds : A → Content → Type 0) (tells : Option (Asking field.reads)) (needs : Needs) (before : Option A) (s : StructField) (o z : Seen)
    → RefusesOnce tells needs before o z → KeepsField field holds before s → RefusesFill tells needs s o z
slot_refused field holds tells needs None s o z refused_by keeps =
    let none : s.found ≡ None = ap (λ (f : StructField). f.found) keeps.1 ∙ keeps.2 in
    narrower needs (FillsReadably field.reads o.state) (FillsStep fill s o.state) (NamesAsked needs tells z.refusal o.state) (NamesField needs tells z.refusal s o.state) z.refusal o.state.source z.state.source
    (λ text f.
    let p = first_time s f.tree f.next f.made in
    record { tree = f.tree; content = p.0; filled = f.filled; read = ap (λ (y : StructField). y.reads f.tree) (sym keeps.1) ∙ p.1 })
    (field_named field.reads tells needs z.refusal s o.state none) refused_by
slot_refused field holds tells needs (Some v) s o z refused_by keeps =
    let some : s.found ≡ Some keeps.2.0 = ap (λ (f : StructField). f.found) keeps.1 ∙ keeps.2.1 in
    let failed = o.state.source.failed in
    unfit_here needs (FillsStep fill s o.state) (NamesField needs tells z.refusal s o.state) z.refusal o.state.source z.state.source
    (complaint_kind failed (complain ItemsLeft) z.refusal tt refused_by.reason) (complaint_first failed (complain ItemsLeft) z.refusal refused_by.reason) (ap (λ (y : State). y.source) refused_by.state)
    (again_named field.reads tells needs z.refusal s o.state keeps.2.0 some refused_by.reason)
    (λ text f. let p = first_time s f.tree f.next f.made in let both : None ≡ Some keeps.2.0 = sym p.2 ∙ some in cc)

-- a field was read that was new
pub first_read : {A : Type 0} (field : StructField) (holds : A → Content → Type 0) (o z : Seen) (v : A) → field ≡ with_found field None → Answers field.reads holds o.state z.state v → ReadsNew holds field o z v
first_read field holds o z v fresh a = record {
  tree = a.tree;
  next = with_found field (Some a.content);
  made = ap (λ z. fill z a.tree) fresh ∙ filled_first field a.tree a.content a.read;
  kept = (a.content, refl, a.held);
  text = a.text;
  filled = a.filled;
  took = a.took;
  state = a.state;
}

-- what its type refuses, it refuses
pub first_read_refused : {A : Type 0} (field : StructField) (holds : A → Content → Type 0) (tells : Option (Asking field.reads)) (needs : Needs) (o z : Seen)
    → field ≡ with_found field None → Refuses field.reads tells needs z.refusal o.state z.state → RefusesFill tells needs field o z
first_read_refused field holds tells needs o z fresh refused_by = slot_refused field holds tells needs None field o z refused_by (None, fresh, refl)

-- ---- a value of no field

-- what refuses what is passed over refuses it among the fields
unnamed_named : (start : List StructField) (r : Option (AllAsked start)) (ns : List Needs) (e : Error) (ss : List StructField) (o : State) → NamesAsked (struct_needs ns) (Some asking_ignored) e o → NamesFields (struct_needs ns) r None e ss o
unnamed_named start None ns e ss o n = tt
unnamed_named start (Some r) ns e ss o n =
    names_by_more (struct_needs ns) (value_by None (asked_fields r.asks ss) o.opened o.levels o.due) (asks_any o.opened o.levels o.due) e o.source
    (λ f x h. ap (and_then (λ u. give (asked_fields r.asks ss))) h) n

ignored_wider : (ns : List Needs) (e : Error) (o : State) → NamesAsked owned (Some asking_ignored) e o → NamesAsked (struct_needs ns) (Some asking_ignored) e o
ignored_wider ns e o n = names_by_wider owned (struct_needs ns) (asks_any o.opened o.levels o.due) e o.source (λ h. absurd cc) (λ h. refl) n

pub unnamed_refused : (start : List StructField) (r : Option (AllAsked start)) (ns : List Needs) (e : Error) (ss : List StructField) (o z : State) → Refuses reads_ignored (Some asking_ignored) owned e o z
    → RefusesStep (λ b. fill_field b Unknown) (struct_needs ns) (NamesFields (struct_needs ns) r None e ss o) e ss o z
unnamed_refused start r ns e ss o z refused_by =
    wider_needs owned (struct_needs ns) (FillsStep (λ b. fill_field b Unknown) ss o) (NamesAsked owned (Some asking_ignored) e o) (NamesFields (struct_needs ns) r None e ss o) e o.source z.source (λ h. absurd cc) (λ h. refl) (λ h. refl)
    (λ n. unnamed_named start r ns e ss o (ignored_wider ns e o n))
    (narrower owned (FillsReadably reads_ignored o) (FillsStep (λ b. fill_field b Unknown) ss o) (NamesAsked owned (Some asking_ignored) e o) (NamesAsked owned (Some asking_ignored) e o) e o.source z.source
    (λ text f. let p = part_made (λ c. ss) (reads_ignored f.tree) f.next f.made in record { tree = f.tree; content = p.0; filled = f.filled; read = p.1 }) (λ n. n) refused_by)

-- ---- the fields after one another

pub none_refused : (e : Error) (place : ℕ) (ss : List StructField) (o z : State) → ss ≡ [] → Refuses reads_ignored (Some asking_ignored) owned e o z
    → RefusesStep (fill_at place) (struct_needs []) (NamesFields {all = []} (struct_needs []) (Some (record { asks = []; passes = tt })) (Some place) e ss o) e ss o z
none_refused e place ss o z same refused_by =
    narrower owned (FillsReadably reads_ignored o) (FillsStep (fill_at place) ss o) (NamesAsked owned (Some asking_ignored) e o) (NamesBy owned (value_at place [] o.opened o.levels o.due) e o.source) e o.source z.source
    (λ text f.
    let p = part_made (λ c. []) (reads_ignored f.tree) f.next (ap (λ y. fill_at place y f.tree) (sym same) ∙ f.made) in
    record { tree = f.tree; content = p.0; filled = f.filled; read = p.1 })
    (names_by_more owned (value_at place [] o.opened o.levels o.due) (asks_any o.opened o.levels o.due) e o.source (λ f x h. ap (and_then (λ u. give [])) h)) refused_by

pub read_first : (P Q : StructField → Type 0) (F : List StructField → Type 0) (o z : State) (place : ℕ) → place ≡ 0 → ((s : StructField) → P s → MakesStep fill Q s o z)
    → (ss : List StructField) → KeepsBoth P F ss → MakesStep (fill_at place) (KeepsBoth Q F) ss o z
read_first P Q F o z place first by [] keeps = absurd keeps
read_first P Q F o z place first by (s ∷ ss) keeps =
    let r = by s keeps.0 in
    record {
      tree = r.tree;
      next = r.next ∷ ss;
      made = ap (λ n. fill_at n (s ∷ ss) r.tree) first ∙ ap (option_map (λ y. y ∷ ss)) r.made;
      kept = (r.kept, keeps.1);
      text = r.text;
      filled = r.filled;
      took = r.took;
      state = r.state;
    }

pub read_later : (P : StructField → Type 0) (F G : List StructField → Type 0) (o z : State) (place before : ℕ) → place ≡ suc before → ((ss : List StructField) → F ss → MakesStep (fill_at before) G ss o z)
    → (ss : List StructField) → KeepsBoth P F ss → MakesStep (fill_at place) (KeepsBoth P G) ss o z
read_later P F G o z place before later by [] keeps = absurd keeps
read_later P F G o z place before later by (s ∷ ss) keeps =
    let r = by ss keeps.1 in
    record {
      tree = r.tree;
      next = s ∷ r.next;
      made = ap (λ n. fill_at n (s ∷ ss) r.tree) later ∙ ap (option_map (λ y. s ∷ y)) r.made;
      kept = (keeps.0, r.kept);
      text = r.text;
      filled = r.filled;
      took = r.took;
      state = r.state;
    }

-- where a part of the step is refused, the step is
part_refuses : {A B : Type 0} (part : A → Tree → Option A) (whole : B → Tree → Option B) (some needs : Needs) (N M : Type 0) (e : Error) (a : A) (b : B) (o z : State)
    → (some.lent ≡ true → needs.lent ≡ true) → (some.memory ≡ true → needs.memory ≡ true) → (some.memory || some.keys ≡ true → needs.memory || needs.keys ≡ true) → ((t : Tree) (c : B) → whole b t ≡ Some c → (d : A) × (part a t ≡ Some d))
    → (N → M) → RefusesStep part some N e a o z → RefusesStep whole needs M e b o z
part_refuses part whole some needs N M e a b o z lent memory takes by name refused_by =
    narrower needs (FillsStep part a o) (FillsStep whole b o) M M e o.source z.source
    (λ text f. let p = by f.tree f.next f.made in record { tree = f.tree; next = p.0; made = p.1; filled = f.filled })
    (λ n. n) (wider_needs some needs (FillsStep part a o) N M e o.source z.source lent memory takes name refused_by)

-- what refuses a field refuses the fields that begin with it
first_asked : (f : asks.Field) (fs : List asks.Field) (o n : ℕ) (d : Due) (x : List ℕ) (e : Error) → value_at 0 (f ∷ []) o n d x ≡ refuses e → value_at 0 (f ∷ fs) o n d x ≡ refuses e
first_asked f fs o n d x e h = at f.found h
  where
    of_type : (a : Answer Unit) → and_then (λ u. give (record f { found = true } ∷ [])) a ≡ refuses e → and_then (λ u. give (record f { found = true } ∷ fs)) a ≡ refuses e
    of_type (reads u y) h = absurd cc
    of_type (refuses why) h = h

    at : (b : Bool) → cond b (refuse (complain ItemsLeft)) (f.type o n d >>= λ u. give (record f { found = true } ∷ [])) x ≡ refuses e
        → cond b (refuse (complain ItemsLeft)) (f.type o n d >>= λ u. give (record f { found = true } ∷ fs)) x ≡ refuses e
    at true h = h
    at false h = of_type (f.type o n d x) h

first_named : (s : StructField) (others : List StructField) (tells : Option (Asking s.reads)) (rest : Option (AllAsked others)) (some : Needs) (ns : List Needs) (e : Error) (now : StructField) (ss : List StructField) (o : State) (place : ℕ) → place ≡ 0
    → NamesField some tells e now o → NamesFields (struct_needs (some ∷ ns)) (joined {s = s} {ss = others} tells rest) (Some place) e (now ∷ ss) o
first_named s others None rest some ns e now ss o place first n = tt
first_named s others (Some a) None some ns e now ss o place first n = tt
first_named s others (Some a) (Some r) some ns e now ss o place first n =
    let needs = struct_needs (some ∷ ns) in
    let fs = asked_fields r.asks ss in
    let f = asked_field a.asks now in
    subst (λ p. NamesBy needs (value_at p (f ∷ fs) o.opened o.levels o.due) e o.source) (sym first)
    (names_by_more needs (value_at 0 (f ∷ fs) o.opened o.levels o.due) (value_at 0 (f ∷ []) o.opened o.levels o.due) e o.source (λ g x h. first_asked f fs o.opened o.levels o.due x g h)
    (names_by_wider some needs (value_at 0 (f ∷ []) o.opened o.levels o.due) e o.source (or_left some.lent (any_lent ns)) (λ h. refl) n))

-- what is refused of the first is refused among all
pub first_one : (field : StructField) (others : List StructField) (tells : Option (Asking field.reads)) (rest : Option (AllAsked others)) (some : Needs) (ns : List Needs) (e : Error) (o z : State) (place : ℕ) (s : StructField) (ss : List StructField) → place ≡ 0
    → RefusesStep fill some (NamesField some tells e s o) e s o z
    → RefusesStep (fill_at place) (struct_needs (some ∷ ns)) (NamesFields (struct_needs (some ∷ ns)) (joined {s = field} {ss = others} tells rest) (Some place) e (s ∷ ss) o) e (s ∷ ss) o z
first_one field others tells rest some ns e o z place s ss first is =
    part_refuses fill (fill_at place) some (struct_needs (some ∷ ns)) _ _ e s (s ∷ ss) o z (or_left some.lent (any_lent ns)) (λ h. refl) (λ h. refl)
    (λ t c made. part_made (λ y. y ∷ ss) (fill s t) c (ap (λ n. fill_at n (s ∷ ss) t) (sym first) ∙ made))
    (first_named field others tells rest some ns e s ss o place first) is

pub first_refused : (field : StructField) (others : List StructField) (tells : Option (Asking field.reads)) (rest : Option (AllAsked others)) (P : StructField → Type 0) (F : List StructField → Type 0) (some : Needs) (ns : List Needs) (e : Error) (o z : State) (place : ℕ) → place ≡ 0
    → ((s : StructField) → P s → RefusesStep fill some (NamesField some tells e s o) e s o z)
    → (ss : List StructField) → KeepsBoth P F ss → RefusesStep (fill_at place) (struct_needs (some ∷ ns)) (NamesFields (struct_needs (some ∷ ns)) (joined {s = field} {ss = others} tells rest) (Some place) e ss o) e ss o z
first_refused field others tells rest P F some ns e o z place first by [] keeps = absurd keeps
first_refused field others tells rest P F some ns e o z place first by (s ∷ ss) keeps = first_one field others tells rest some ns e o z place s ss first (by s keeps.0)

later_named : (s : StructField) (others : List StructField) (tells : Option (Asking s.reads)) (rest : Option (AllAsked others)) (some : Needs) (ns : List Needs) (e : Error) (now : StructField) (ss : List StructField) (o : State) (place before : ℕ) → place ≡ suc before
    → NamesFields (struct_needs ns) rest (Some before) e ss o → NamesFields (struct_needs (some ∷ ns)) (joined {s = s} {ss = others} tells rest) (Some place) e (now ∷ ss) o
later_named s others None rest some ns e now ss o place before later n = tt
later_named s others (Some a) None some ns e now ss o place before later n = tt
later_named s others (Some a) (Some r) some ns e now ss o place before later n =
    let needs = struct_needs (some ∷ ns) in
    let fs = asked_fields r.asks ss in
    let f = asked_field a.asks now in
    subst (λ p. NamesBy needs (value_at p (f ∷ fs) o.opened o.levels o.due) e o.source) (sym later)
    (names_by_more needs (value_at (suc before) (f ∷ fs) o.opened o.levels o.due) (value_at before fs o.opened o.levels o.due) e o.source (λ g x h. ap (and_then (λ more. give (f ∷ more))) h)
    (names_by_wider (struct_needs ns) needs (value_at before fs o.opened o.levels o.due) e o.source (or_right some.lent (any_lent ns)) (λ h. refl) n))

-- what is refused among the others is refused among all
pub later_one : (field : StructField) (others : List StructField) (tells : Option (Asking field.reads)) (rest : Option (AllAsked others)) (some : Needs) (ns : List Needs) (e : Error) (o z : State) (place before : ℕ) (s : StructField) (ss : List StructField) → place ≡ suc before
    → RefusesStep (fill_at before) (struct_needs ns) (NamesFields (struct_needs ns) rest (Some before) e ss o) e ss o z
    → RefusesStep (fill_at place) (struct_needs (some ∷ ns)) (NamesFields (struct_needs (some ∷ ns)) (joined {s = field} {ss = others} tells rest) (Some place) e (s ∷ ss) o) e (s ∷ ss) o z
later_one field others tells rest some ns e o z place before s ss later is =
    part_refuses (fill_at before) (fill_at place) (struct_needs ns) (struct_needs (some ∷ ns)) _ _ e ss (s ∷ ss) o z (or_right some.lent (any_lent ns)) (λ h. refl) (λ h. refl)
    (λ t c made. part_made (λ y. s ∷ y) (fill_at before ss t) c (ap (λ n. fill_at n (s ∷ ss) t) (sym later) ∙ made))
    (later_named field others tells rest some ns e s ss o place before later) is

pub later_refused : (field : StructField) (others : List StructField) (tells : Option (Asking field.reads)) (rest : Option (AllAsked others)) (P : StructField → Type 0) (F : List StructField → Type 0) (some : Needs) (ns : List Needs) (e : Error) (o z : State) (place before : ℕ) → place ≡ suc before
    → ((ss : List StructField) → F ss → RefusesStep (fill_at before) (struct_needs ns) (NamesFields (struct_needs ns) rest (Some before) e ss o) e ss o z)
    → (ss : List StructField) → KeepsBoth P F ss → RefusesStep (fill_at place) (struct_needs (some ∷ ns)) (NamesFields (struct_needs (some ∷ ns)) (joined {s = field} {ss = others} tells rest) (Some place) e ss o) e ss o z
later_refused field others tells rest P F some ns e o z place before later by [] keeps = absurd keeps
later_refused field others tells rest P F some ns e o z place before later by (s ∷ ss) keeps = later_one field others tells rest some ns e o z place before s ss later (by ss keeps.1)

-- ---- the end

both_at_end : (s : StructField) (ss : List StructField) (c : Content) (cs : List Content) → field_at_end s ≡ Some c → each_some field_at_end ss ≡ Some cs → each_some field_at_end (s ∷ ss) ≡ Some (c ∷ cs)
both_at_end s ss c cs e f = ap (option_and_then (λ y. option_map (λ ys. y ∷ ys) (each_some field_at_end ss))) e ∙ ap (option_map (λ ys. c ∷ ys)) f

pub both_finished : {A B : Type 0} (P : StructField → Type 0) (F : List StructField → Type 0) (holds : A → Content → Type 0) (others : B → List (Content → Type 0)) (v : A) (w : B)
    → ((s : StructField) → P s → FinishesField holds s (Some v)) → ((ss : List StructField) → F ss → FinishesEach others ss (Some w))
    → (ss : List StructField) → KeepsBoth P F ss → FinishesEach (λ (z : A × B). holds z.0 ∷ others z.1) ss (Some (v, w))
both_finished P F holds others v w first rest [] keeps = absurd keeps
both_finished P F holds others v w first rest (s ∷ ss) keeps =
    let a = first s keeps.0 in
    let b = rest ss keeps.1 in
    (a.0 ∷ b.0, both_at_end s ss a.0 b.0 a.1 b.1, (a.2, b.2))

-- the first field is the one that is required and absent
pub first_lacks : {A : Type 0} (P : StructField → Type 0) (F : List StructField → Type 0) (holds : A → Content → Type 0)
    → ((s : StructField) → P s → FinishesField holds s None) → (ss : List StructField) → KeepsBoth P F ss → LacksAt 0 ss
first_lacks P F holds first [] keeps = absurd keeps
first_lacks P F holds first (s ∷ ss) keeps = first s keeps.0

-- one of the others is
pub others_lack : (P : StructField → Type 0) (F : List StructField → Type 0) (place after : ℕ) → after ≡ suc place
    → ((ss : List StructField) → F ss → LacksAt place ss) → (ss : List StructField) → KeepsBoth P F ss → LacksAt after ss
others_lack P F place after next rest [] keeps = absurd keeps
others_lack P F place after next rest (s ∷ ss) keeps = rw next (rest ss keeps.1)
