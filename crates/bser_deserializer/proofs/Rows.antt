-- A row is read field by field, and told as the object of its keys and fields.
use Rattle.std.proofs.Common.{◌≡◌, ℕ, suc, ◌+◌, ◌-◌, ◌<◌, Bool, true, false, ◌&&◌, List, [], ◌∷◌, ◌++◌, length, map, get_or, Option, Some, None, refl, sym, ap, subst, ◌∙◌, append_assoc, append-nil, length-append, arith, IsUtf8}
use Rattle.std.specs.List.{zip}
use Rattle.std.specs.Str.{is_utf8}
use Rattle.std.proofs.lemmas.Str.{is_utf8-from_IsUtf8}
use Rattle.bser_format.specs.Tree as trees
use Rattle.bser_format.specs.Tree.{Tree, entries, entries_of, fields, fields_of}
use Rattle.bser_format.specs.Grammar.{Each, Spells, SpellsField}
use Rattle.bser_format.specs.Expand.{expand, expand_entries, expand_fields}
use Rattle.bser_format.specs.Expected.{node_due, row_due}
use Rattle.bser_format.specs.ReadsAny.{has_utf8_keys, entries_have_utf8_keys, reads_ignored}
use Rattle.bser_format.proofs.Fronts.{field_reads}
use Rattle.bser_format.specs.declared.errors.Error.{Error}
use Rattle.bser_format.specs.Named.{Reader, reads, refuses, give, and_then, ◌>>=◌, many, field_of, any, with_text_keys}
use Rattle.bser_format.specs.NamedLaws.{HasTextKeys}
use Rattle.bser_format.specs.Asks.{done, asks_any}
use Rattle.bser_format.proofs.TextKeys.{join, KeyedField, field_sifts, text_keys_sift}
use Rattle.bser_source.specs.Window.{Took}
use Rattle.bser_source.proofs.Windows.{took_then}
use Rattle.bser_bunser.specs.Refusal.{Fails}
use Rattle.bser_events.specs.Events as events
use Rattle.bser_events.specs.Events.{Event, TakesAll, more, none, entry_events, events as tree_events}
use Rattle.bser_events.proofs.Takings.{takes_one, takes_then}
use Rattle.bser_deserializer.specs.State.{State, awaiting, past}
use Rattle.bser_deserializer.specs.Reading.{NamesBy, Refuses, owned}
use Rattle.bser_deserializer.specs.Askings.{asking_ignored}
use Rattle.bser_deserializer.proofs.Refusals.{fails_untaken, names_by_untaken}
use Rattle.bser_deserializer.proofs.WholeRows.{row_whole}
use Rattle.bser_deserializer.specs.Any.{TookAny, TookField, TellsName, told_field}
use Rattle.bser_deserializer.proofs.Told.{any_refused}
use Rattle.bser_deserializer.proofs.Texts.{took_nothing}

-- ---- keys beside fields

-- the entries that were told: each key beside its field
abbrev pub told_entries : List (List ℕ) → List (Option Tree) → List (List ℕ × Tree)
told_entries ks row = zip ks (map told_field row)

none_beside : {X Y : Type 0} (xs : List X) → zip {X = Y} xs [] ≡ []
none_beside [] = refl
none_beside (x ∷ xs) = refl

one_beside : (ks : List (List ℕ)) (row : List (Option Tree)) (f : Option Tree) → length row < length ks
    → told_entries ks (row ++ f ∷ []) ≡ told_entries ks row ++ (get_or ks (length row) [], told_field f) ∷ []
one_beside [] row f less = absurd (omega (arith, less))
one_beside (k ∷ ks) [] f less = ap (λ l. (k, told_field f) ∷ l) (none_beside ks)
one_beside (k ∷ ks) (r ∷ row) f less = ap (λ l. (k, told_field r) ∷ l) (one_beside ks row f (omega (arith, less)))

all_beside : (ks : List (List ℕ)) (row : List (Option Tree)) → length row ≡ length ks → length (told_entries ks row) ≡ length ks
all_beside [] row even = refl
all_beside (k ∷ ks) [] even = absurd (omega (arith, even))
all_beside (k ∷ ks) (r ∷ row) even = ap suc (all_beside ks row (omega (arith, even)))

-- they stand for the row's object
beside_expanded : (ks : List (List ℕ)) (row : List (Option Tree)) → expand_entries (entries_of (told_entries ks row)) ≡ expand_fields ks (fields_of row)
beside_expanded [] row = refl
beside_expanded (k ∷ ks) [] = refl
beside_expanded (k ∷ ks) (None ∷ row) = ap (trees.entry k trees.null) (beside_expanded ks row)
beside_expanded (k ∷ ks) (Some t ∷ row) = ap (trees.entry k (expand t)) (beside_expanded ks row)

entries_again : (es : List (List ℕ × Tree)) → entries (entries_of es) ≡ es
entries_again [] = refl
entries_again (e ∷ es) = ap (λ l. e ∷ l) (entries_again es)

fields_again : (row : List (Option Tree)) → fields (fields_of row) ≡ row
fields_again [] = refl
fields_again (None ∷ row) = ap (λ l. None ∷ l) (fields_again row)
fields_again (Some t ∷ row) = ap (λ l. Some t ∷ l) (fields_again row)

-- one entry more is told
one_told : (es : List (List ℕ × Tree)) (k : List ℕ) (t : Tree) → entry_events (entries_of (es ++ (k, t) ∷ [])) ≡ entry_events (entries_of es) ++ (events.key k ∷ tree_events t)
one_told [] k t = append-nil (events.key k ∷ tree_events t)
one_told (e ∷ es) k t =
    ap (λ l. (events.key e.0 ∷ tree_events e.1) ++ l) (one_told es k t)
    ∙ sym (append_assoc (events.key e.0 ∷ tree_events e.1) (entry_events (entries_of es)) (events.key k ∷ tree_events t))

both : (a b : Bool) → (a && b) ≡ true → (a ≡ true) × (b ≡ true)
both true b e = (refl, e)
both false b e = absurd cc

one_keyed : (es : List (List ℕ × Tree)) (k : List ℕ) (t : Tree) → entries_have_utf8_keys (expand_entries (entries_of es)) ≡ true → is_utf8 k ≡ true → HasTextKeys t
    → entries_have_utf8_keys (expand_entries (entries_of (es ++ (k, t) ∷ []))) ≡ true
one_keyed [] k t all is keys = join (is_utf8 k && has_utf8_keys (expand t)) true (join _ _ is keys) refl
one_keyed (e ∷ es) k t all is keys =
    let p = both (is_utf8 e.0 && has_utf8_keys (expand e.1)) _ all in
    join (is_utf8 e.0 && has_utf8_keys (expand e.1)) _ p.0 (one_keyed es k t p.1 is keys)

-- ---- a field

keyed : (f : Option Tree) → HasTextKeys (told_field f) → KeyedField f
keyed None h = tt
keyed (Some t) h = h

field_passes : (n : ℕ) (f : Option Tree) (b x : List ℕ) → SpellsField (Spells n) f b → HasTextKeys (told_field f) → field_of (with_text_keys n) (b ++ x) ≡ reads f x
field_passes n f b x h keys =
    (field_sifts (any n) (with_text_keys n) (text_keys_sift n) (b ++ x)).kept f x (field_reads n f b x h) (keyed f keys)

-- ---- a row, field by field

-- the fields before this place were taken, and their entries were told
pub record RowPart {B : Type 0} (takes : B → Event → B → Type 0) (place : ℕ) (before after : B) (old new : State) : Type 0 where
  pub text : List ℕ
  pub row : List (Option Tree)
  pub count : length row ≡ place
  pub took : Took old.source new.source text
  pub state : new ≡ past old new.source
  pub spelled : (others : List (Option Tree)) (x : List ℕ) → Each (SpellsField (Spells old.levels)) others x → Each (SpellsField (Spells old.levels)) (row ++ others) (text ++ x)
  -- what refuses those left refuses the whole
  pub refused : (left : ℕ) (x : List ℕ) (e : Error) → many (field_of (with_text_keys old.levels)) left x ≡ refuses e
      → many (field_of (with_text_keys old.levels)) (place + left) (text ++ x) ≡ refuses e
  pub keys : entries_have_utf8_keys (expand_entries (entries_of (told_entries old.keys row))) ≡ true
  pub told : TakesAll takes before (entry_events (entries_of (told_entries old.keys row))) after

pub row_begins : {B : Type 0} (takes : B → Event → B → Type 0) (before : B) (old new : State) → old.source.failed ≡ false → new ≡ past old old.source
    → RowPart takes 0 before before old new
row_begins takes before old new works state =
    let nothing = none_beside old.keys in
    subst (RowPart takes 0 before before old) (sym state) (record {
      text = [];
      row = [];
      count = refl;
      took = took_nothing old.source works;
      state = refl;
      spelled = λ others x h. h;
      refused = λ left x e h. subst (λ k. many (field_of (with_text_keys old.levels)) k x ≡ refuses e) (let s : left ≡ 0 + left = omega arith in s) h;
      keys = ap (λ l. entries_have_utf8_keys (expand_entries (entries_of l))) nothing;
      told = subst (λ l. TakesAll takes before (entry_events (entries_of l)) before) (sym nothing) (none before);
    })

pub row_goes_on : {B : Type 0} (takes : B → Event → B → Type 0) (place : ℕ) (before mid named after : B) (old s z : State)
    → RowPart takes place before mid old s → place < length old.keys → TellsName takes place s.keys mid named
    → TookField takes s.levels named after s.source z.source → z ≡ past s z.source → RowPart takes (place + 1) before after old z
row_goes_on takes place before mid named after old s z p less name f state =
    let n : ℕ = old.levels in
    let ks : List (List ℕ) = old.keys in
    let levels : s.levels ≡ n = ap (λ w. w.levels) p.state in
    let keys : s.keys ≡ ks = ap (λ w. w.keys) p.state in
    let spelled : SpellsField (Spells n) f.field f.text = subst (λ m. SpellsField (Spells m) f.field f.text) levels f.spelled in
    let k : List ℕ = get_or ks place [] in
    let utf8 : IsUtf8 k = subst (λ ls. IsUtf8 (get_or ls place [])) keys name.utf8 in
    let key : takes mid (events.key k) named = subst (λ ls. takes mid (events.key (get_or ls place [])) named) keys name.told in
    let one : told_entries ks (p.row ++ f.field ∷ []) ≡ told_entries ks p.row ++ (k, told_field f.field) ∷ [] =
    one_beside ks p.row f.field (omega (arith, less, p.count)) ∙ ap (λ i. told_entries ks p.row ++ (get_or ks i [], told_field f.field) ∷ []) p.count in
    record {
      text = p.text ++ f.text;
      row = p.row ++ f.field ∷ [];
      count = omega (arith, length-append p.row (f.field ∷ []), p.count);
      took = took_then old.source s.source z.source p.text f.text p.took f.took;
      state = state ∙ ap (λ w. past w z.source) p.state;
      spelled = λ others x h.
          let whole = p.spelled (f.field ∷ others) (f.text ++ x) (record { front = f.text; rest = x; whole = refl; first = spelled; second = h }) in
          subst (λ l. Each (SpellsField (Spells n)) l ((p.text ++ f.text) ++ x)) (sym (append_assoc p.row (f.field ∷ []) others))
          (subst (Each (SpellsField (Spells n)) (p.row ++ (f.field ∷ others))) (sym (append_assoc p.text f.text x)) whole);
      refused = λ left x e h.
          let next : many (field_of (with_text_keys n)) (suc left) (f.text ++ x) ≡ refuses e =
          ap (and_then (λ v. many (field_of (with_text_keys n)) left >>= λ vs. give (v ∷ vs))) (field_passes n f.field f.text x spelled f.keys) ∙ ap (and_then (λ vs. give (f.field ∷ vs))) h in
          let more : place + suc left ≡ place + 1 + left = omega arith in
          subst (λ j. many (field_of (with_text_keys n)) j ((p.text ++ f.text) ++ x) ≡ refuses e) more
          (ap (many (field_of (with_text_keys n)) (place + suc left)) (append_assoc p.text f.text x) ∙ p.refused (suc left) (f.text ++ x) e next);
      keys = ap (λ l. entries_have_utf8_keys (expand_entries (entries_of l))) one ∙ one_keyed (told_entries ks p.row) k (told_field f.field) p.keys (is_utf8-from_IsUtf8 k utf8) f.keys;
      told = subst (λ l. TakesAll takes before l after) (sym (ap (λ l. entry_events (entries_of l)) one ∙ one_told (told_entries ks p.row) k (told_field f.field)))
          (takes_then takes before mid after (entry_events (entries_of (told_entries ks p.row))) (events.key k ∷ tree_events (told_field f.field)) p.told
          (more mid named after (events.key k) (tree_events (told_field f.field)) key f.told));
    }

no_value : (ks : List (List ℕ)) → row_due ks ≡ node_due → ⊥
no_value ks e = cc

-- a row whose fields were all taken
pub row_ends : {B : Type 0} (takes : B → Event → B → Type 0) (place len : ℕ) (first before mid after : B) (s m z : State) → place ≡ len → len ≡ length s.keys
    → RowPart takes place before mid s m → takes first (events.open_object len) before → takes mid events.close after → z ≡ m
    → TookAny takes first after (awaiting (row_due s.keys) s) z
row_ends takes place len first before mid after s m z full count p opens closes end =
    let ks : List (List ℕ) = s.keys in
    let es : List (List ℕ × Tree) = told_entries ks p.row in
    let even : length p.row ≡ length ks = p.count ∙ full ∙ count in
    let whole : Each (SpellsField (Spells s.levels)) p.row p.text =
    subst (λ l. Each (SpellsField (Spells s.levels)) l p.text) (append-nil p.row) (subst (Each (SpellsField (Spells s.levels)) (p.row ++ [])) (append-nil p.text) (p.spelled [] [] refl)) in
    let counted : length (entries (entries_of es)) ≡ len = ap length (entries_again es) ∙ all_beside ks p.row even ∙ sym count in
    subst (TookAny takes first after (awaiting (row_due ks) s)) (sym end) (record {
      tree = trees.object (entries_of es);
      text = p.text;
      filled = record {
        row = fields_of p.row;
        even = ap length (fields_again p.row) ∙ even;
        stands = ap trees.object (beside_expanded ks p.row);
        spelled = subst (λ l. Each (SpellsField (Spells s.levels)) l p.text) (sym (fields_again p.row)) whole;
      };
      spelled = λ e. absurd (no_value ks e);
      rows = row_whole s.levels ks p.row p.text whole;
      keys = p.keys;
      took = p.took;
      state = p.state;
      told = more first before after (events.open_object (length (entries (entries_of es)))) (entry_events (entries_of es) ++ events.close ∷ [])
          (subst (λ k. takes first (events.open_object k) before) (sym counted) opens)
          (takes_then takes before mid after (entry_events (entries_of es)) (events.close ∷ []) p.told (takes_one takes mid after events.close closes));
    })

-- ---- refusals

row_asked : (o n : ℕ) (ks : List (List ℕ)) (x : List ℕ) (e : Error) → many (field_of (with_text_keys n)) (length ks) x ≡ refuses e → asks_any o n (row_due ks) x ≡ refuses e
row_asked o n ks x e h = ap (and_then done) h

-- what refuses the fields of a row
pub row_refused : (e : Error) (s z : State) → Fails e s.source z.source → NamesBy owned (many (field_of (with_text_keys s.levels)) (length s.keys)) e s.source
    → Refuses reads_ignored (Some asking_ignored) owned e (awaiting (row_due s.keys) s) z
row_refused e s z fails said =
    any_refused (many (field_of (with_text_keys s.levels)) (length s.keys)) e (awaiting (row_due s.keys) s) z (λ f x p. row_asked s.opened s.levels s.keys x f p) fails said

-- the next field is refused
pub next_refused : {B : Type 0} (takes : B → Event → B → Type 0) (place : ℕ) (before mid : B) (e : Error) (s m z : State) → RowPart takes place before mid s m → place < length s.keys
    → Fails e m.source z.source → NamesBy owned (field_of (with_text_keys m.levels)) e m.source → Refuses reads_ignored (Some asking_ignored) owned e (awaiting (row_due s.keys) s) z
next_refused takes place before mid e s m z p less fails said =
    let r : Reader (Option Tree) = field_of (with_text_keys s.levels) in
    let left : ℕ = length s.keys - place - 1 in
    let all : place + suc left ≡ length s.keys = omega (arith, less) in
    let said' : NamesBy owned r e m.source = subst (λ n. NamesBy owned (field_of (with_text_keys n)) e m.source) (ap (λ w. w.levels) p.state) said in
    row_refused e s z (fails_untaken e s.source m.source z.source p.text p.took fails)
    (names_by_untaken owned (many r (length s.keys)) r e s.source m.source p.text
    (λ f x h. subst (λ j. many r j (p.text ++ x) ≡ refuses f) all (p.refused (suc left) x f (ap (and_then (λ v. many r left >>= λ vs. give (v ∷ vs))) h)))
    p.took said')
