-- Scalars that are due, and the kind of what is due.
use Rattle.std.proofs.Common.{◌≡◌, ℕ, zero, suc, ◌^◌, ◌<◌, Bool, true, false, cond, List, [], ◌∷◌, ◌++◌, length, take, drop, Some, None, refl, sym, ap, subst, ◌∙◌, arith, inl, inr, ◌⊎◌, nat_eq, nat_lt, ◌||◌}
use Rattle.std.specs.Prelude.{ℤ, pos, negsuc, if◌then◌else◌, FitsSigned}
use Rattle.std.specs.Int.{w64, byte_len, to_le_bytes}
use Rattle.std.proofs.lemmas.Bool.{eqb-true, lt-ltb, ltb-true, ne_eqb}
use Rattle.std.proofs.lemmas.Int.{ints}
use Rattle.bser_format.specs.Tree.{Tree, null, boolean, integer, real}
use Rattle.bser_format.specs.Expand.{expand}
use Rattle.bser_format.specs.Grammar.{IntSize, int8, int16, int32, int64, tag_of, width_of, Spells}
use Rattle.bser_format.specs.Content.{Content, Meaning, one, truth, number}
use Rattle.bser_format.specs.Expected.{Due, Fills, FillsNode, nothing_due, node_due, key_due, field_due, name_due, row_due}
use Rattle.bser_format.specs.ReadsScalars.{reads_bool, reads_unit, reads_real, reads_integer, reads_signed, is_signed}
use Rattle.bser_format.specs.declared.errors.Error.{Error}
use Rattle.bser_format.specs.Named as named
use Rattle.bser_format.specs.Named.{refuses, reads, and_then, eof, front}
use Rattle.bser_format.specs.DueReaders.{Seen, tag, asked, nothing_at, stray_at, value_tag, wrong_type, bool_at, integer_at, real_at, unit_at}
use Rattle.bser_source.specs.Window.{Window, Took, Peeks, closed, consumed}
use Rattle.bser_source.proofs.Windows.{took_by}
use Rattle.bser_bunser.specs.Refusal.{Fails}
use Rattle.bser_bunser.specs.Names.{Names, IsCutInteger, CutsInteger}
use Rattle.bser_bunser.specs.Tagged.{TookInt, TookBits, NoInt}
use Rattle.bser_bunser.specs.declared.prefix.Unexpected.TheVariants.{Tag}
use Rattle.bser_bunser.proofs.Readers.{cut_front, cut_after, other_after}
use Rattle.bser_bunser.proofs.Names.{blames_more}
use Rattle.bser_deserializer.specs.declared.due.Due as code
use Rattle.bser_deserializer.specs.declared.due.Due.TheVariants as due
use Rattle.bser_deserializer.specs.Dues.{IsValueDue, due_of, name_at}
use Rattle.bser_deserializer.specs.State.{State, past, with_source}
use Rattle.bser_deserializer.specs.Reading.{Answers, Asking, Refuses, NamesBy, NamesDue, bare}
use Rattle.bser_deserializer.specs.Askings.{asking_bool, asking_real, asking_unit, asking_integer}
use Rattle.bser_deserializer.proofs.Refusals.{names_any, fails_before}
use Rattle.bser_deserializer.proofs.Clean.{Clean, clean_bools, clean_reals, clean_units, clean_integers}
use Rattle.bser_deserializer.specs.View.{SeesTag, value_here, is_null_at}
use Rattle.bser_deserializer.proofs.Tags.{WantsValue, wants_value, value_asked, no_value_asked, asking_refused, tagged_value, stray_fails, stray_kind, stray_asked, grown_fails, grown_left, peeked_took, peeked_names, nothing_left}

-- ---- what is taken

value_filled : (n : ℕ) (d : Due) (u : Tree) (b : List ℕ) → IsValueDue d → FillsNode n u b → Fills n d u b
value_filled n nothing_due u b is f = absurd is
value_filled n node_due u b is f = f
value_filled n key_due u b is f = absurd is
value_filled n field_due u b is f = inr f
value_filled n (name_due k) u b is f = absurd is
value_filled n (row_due ks) u b is f = absurd is

-- the value that was due was taken
pub value_read : {A : Type 0} (means : Meaning) (holds : A → Content → Type 0) (s t : State) (tree : Tree) (c : Content) (v : A) (text : List ℕ)
    → IsValueDue s.due → Spells s.levels tree text → means (expand tree) ≡ Some c → holds v c → Took s.source t.source text → t ≡ past s t.source
    → Answers means holds s t v
value_read means holds s t tree c v text is spelled read held took state = record {
  tree = expand tree;
  content = c;
  text = text;
  filled = value_filled s.levels s.due (expand tree) text is (record { tree = tree; stands = refl; spelled = spelled });
  read = read;
  held = held;
  took = took;
  state = state;
}

-- one byte that was seen was taken
pub tag_took : (a b c : Window) (t : ℕ) → Peeks a b t → c ≡ consumed 1 b → Took a c (t ∷ [])
tag_took a b c t peeks same = took_by 1 a b c (t ∷ []) peeks.filled same (sym (ap (take 1) peeks.next))

-- what was due is taken, after a look at it
pub past_seen : (s m : State) (r : Window) → m ≡ record s { source = m.source } → past m r ≡ past s r
past_seen s m r same = ap (λ (z : State). past z r) same

-- a value that is a tag alone
pub tag_read : {A : Type 0} (means : Meaning) (holds : A → Content → Type 0) (s m t : State) (tree : Tree) (c : Content) (v : A) (x : ℕ)
    → SeesTag s m x → Spells s.levels tree (x ∷ []) → means (expand tree) ≡ Some c → holds v c → t.source ≡ consumed 1 m.source → t ≡ past m t.source
    → Answers means holds s t v
tag_read means holds s m t tree c v x sees spelled read held same state =
    value_read means holds s t tree c v (x ∷ []) sees.due spelled read held (tag_took s.source m.source t.source x sees.peeks same)
    (state ∙ past_seen s m t.source sees.state)

-- ---- how a type's reading is refused

-- a type asks for what is due as k reads it
pub record AsksFor {X : Type 0} (k : Seen → named.Reader X) (means : Meaning) (a : Asking means) : Type 0 where
  pub first : (o n : ℕ) (d : Due) (x : List ℕ) (e : Error) → asked k o d x ≡ refuses e → a.asks o n d x ≡ refuses e
  pub clean : (o n : ℕ) (d : Due) → Clean (a.asks o n d)

-- k's name is the type's
pub due_refused : {X : Type 0} (k : Seen → named.Reader X) (means : Meaning) (a : Asking means) (e : Error) (s : State) (b : Window) → AsksFor k means a
    → Fails e s.source b → NamesDue bare k e s → Refuses means (Some a) bare e s (with_source s b)
due_refused k means a e s b is fails said =
    asking_refused bare means a (asked k s.opened s.due) e s (with_source s b) (λ f x p. is.first s.opened s.levels s.due x f p)
    (is.clean s.opened s.levels s.due) fails said

-- the tag of a value was refused
pub no_tag_refused : {X : Type 0} (k : Seen → named.Reader X) (means : Meaning) (a : Asking means) (e : Error) (s : State) (b : Window) → AsksFor k means a
    → WantsValue k s.due → Fails e s.source b → NamesBy bare (value_here s.opened s.due) e s.source → Refuses means (Some a) bare e s (with_source s b)
no_tag_refused k means a e s b is wants fails said =
    asking_refused bare means a (value_here s.opened s.due) e s (with_source s b)
    (λ f x p. is.first s.opened s.levels s.due x f (value_asked k s.opened s.due x f wants p)) (is.clean s.opened s.levels s.due) fails said

-- no value is due
pub no_value_refused : {X : Type 0} (k : Seen → named.Reader X) (means : Meaning) (a : Asking means) (e : Error) (s : State) (b : Window) → AsksFor k means a
    → WantsValue k s.due → (IsValueDue s.due → ⊥) → Fails e s.source b → NamesDue bare nothing_at e s → Refuses means (Some a) bare e s (with_source s b)
no_value_refused k means a e s b is wants none fails said =
    asking_refused bare means a (asked nothing_at s.opened s.due) e s (with_source s b)
    (λ f x p. is.first s.opened s.levels s.due x f (no_value_asked k s.opened s.due x f none wants p)) (is.clean s.opened s.levels s.due) fails said

-- what stands there is refused by its tag
pub seen_refused : {X : Type 0} (k : Seen → named.Reader X) (means : Meaning) (a : Asking means) (e : Error) (x : ℕ) (s m t : State) → AsksFor k means a
    → SeesTag s m x → ((y : List ℕ) → asked k s.opened s.due (x ∷ y) ≡ refuses (stray_at s.due x)) → e ≡ stray_at m.due x
    → t ≡ record m { source = closed m.source } → Refuses means (Some a) bare e s t
seen_refused k means a e x s m t is sees other reason state =
    let same : stray_at s.due x ≡ e = sym (reason ∙ ap (λ (z : State). stray_at z.due x) sees.state) in
    let fails = stray_fails s.due x s.source m.source t.source sees.peeks (ap (λ (z : State). z.source) state) in
    let said = grown_left bare (asked k s.opened s.due) (stray_at s.due x) 1 s.source m.source x other sees.peeks.filled.grown sees.peeks.next in
    due_refused k means a e s t.source is (subst (λ z. Fails z s.source t.source) same fails) (subst (λ z. NamesDue bare k z s) same said)

-- the value has a tag of another kind
pub other_tag_refused : {X : Type 0} (k : Seen → named.Reader X) (means : Meaning) (a : Asking means) (e : Error) (x : ℕ) (s m t : State) → AsksFor k means a
    → SeesTag s m x → ((y : List ℕ) → k (tag x) y ≡ refuses wrong_type) → e ≡ stray_at m.due x → t ≡ record m { source = closed m.source }
    → Refuses means (Some a) bare e s t
other_tag_refused k means a e x s m t is sees other reason state =
    seen_refused k means a e x s m t is sees (λ y. stray_asked k s.opened s.due x y (tagged_value s.due sees.due) (other y)) reason state

-- ---- truth values and units

pub asks_for_bool : AsksFor bool_at reads_bool asking_bool
asks_for_bool = record { first = λ o n d x e p. ap (and_then (λ v. named.give tt)) p; clean = clean_bools }

pub wants_bool : (d : Due) → WantsValue bool_at d
wants_bool d = wants_value bool_at d (λ x. refl) (λ x. refl) (λ s x. refl) (λ ks x. refl)

pub other_bool : (t : ℕ) → (t ≡ 0x08 → ⊥) → (t ≡ 0x09 → ⊥) → (y : List ℕ) → bool_at (tag t) y ≡ refuses wrong_type
other_bool t a b y = rw (ne_eqb t 8 a, ne_eqb t 9 b) refl

-- one of two tags was taken
pub bool_read : (s m t : State) (x : ℕ) → ((x ≡ 0x08 → ⊥) × (x ≡ 0x09)) ⊎ (x ≡ 0x08) → SeesTag s m x → t.source ≡ consumed 1 m.source → t ≡ past m t.source
    → Answers reads_bool (λ v c. c ≡ truth v) s t (nat_eq x 0x08)
bool_read s m t x (inl e) sees same state =
    subst (λ y. Answers reads_bool (λ v c. c ≡ truth v) s t (nat_eq y 0x08)) (sym e.1)
    (tag_read reads_bool (λ v c. c ≡ truth v) s m t (boolean false) (truth false) false 0x09 (subst (SeesTag s m) e.1 sees) refl refl refl same state)
bool_read s m t x (inr e) sees same state =
    subst (λ y. Answers reads_bool (λ v c. c ≡ truth v) s t (nat_eq y 0x08)) (sym e)
    (tag_read reads_bool (λ v c. c ≡ truth v) s m t (boolean true) (truth true) true 0x08 (subst (SeesTag s m) e sees) refl refl refl same state)

pub asks_for_unit : AsksFor unit_at reads_unit asking_unit
asks_for_unit = record { first = λ o n d x e p. ap (and_then (λ v. named.give tt)) p; clean = clean_units }

pub wants_unit : (d : Due) → WantsValue unit_at d
wants_unit d = wants_value unit_at d (λ x. refl) (λ x. refl) (λ s x. refl) (λ ks x. refl)

-- only a field has a skip
pub null_elsewhere : (ks : List (List ℕ)) (place : ℕ) (d : code.Due) (t : ℕ) → (d ≡ due.Field → ⊥) → is_null_at (due_of ks place d) t ≡ nat_eq t 0x0a
null_elsewhere ks place due.Nothing t field = refl
null_elsewhere ks place due.Node t field = refl
null_elsewhere ks place due.Key t field = refl
null_elsewhere ks place due.Field t field = absurd (field refl)
null_elsewhere ks place due.Name t field = by_place place ks
  where
    by_place : (place : ℕ) (ks : List (List ℕ)) → is_null_at (name_at place ks) t ≡ nat_eq t 0x0a
    by_place place [] = refl
    by_place zero (k ∷ ks) = refl
    by_place (suc place) (k ∷ ks) = by_place place ks
null_elsewhere ks place due.Row t field = refl

null_tag : (n t : ℕ) → nat_eq t 0x0a ≡ true → FillsNode n null (t ∷ [])
null_tag n t is = record { tree = null; stands = refl; spelled = ap (λ y. y ∷ []) (eqb-true t 0x0a is) }

-- a null, or a field that is skipped
pub null_filled : (n : ℕ) (d : Due) (t : ℕ) → IsValueDue d → is_null_at d t ≡ true → Fills n d null (t ∷ [])
null_filled n nothing_due t due is = absurd due
null_filled n node_due t due is = null_tag n t is
null_filled n key_due t due is = absurd due
null_filled n field_due t due is = go (nat_eq t 0x0a) refl is
  where
    go : (c : Bool) → nat_eq t 0x0a ≡ c → c || nat_eq t 0x0c ≡ true → Fills n field_due null (t ∷ [])
    go true e h = inr (null_tag n t e)
    go false e h = inl (refl, ap (λ y. y ∷ []) (eqb-true t 0x0c h))
null_filled n (name_due k) t due is = absurd due
null_filled n (row_due ks) t due is = absurd due

-- another tag is no null
no_null_asked : (o : ℕ) (d : Due) (t : ℕ) (y : List ℕ) → IsValueDue d → is_null_at d t ≡ false → asked unit_at o d (t ∷ y) ≡ refuses (stray_at d t)
no_null_asked o nothing_due t y due is = absurd due
no_null_asked o node_due t y due is = go (nat_eq t 0x0c) refl
  where
    go : (c : Bool) → nat_eq t 0x0c ≡ c → asked unit_at o node_due (t ∷ y) ≡ refuses (stray_at node_due t)
    go true e = rw (eqb-true t 0x0c e) refl
    go false e = stray_asked unit_at o node_due t y tt (rw (is, e) refl)
no_null_asked o key_due t y due is = absurd due
no_null_asked o field_due t y due is = stray_asked unit_at o field_due t y tt (rw is refl)
no_null_asked o (name_due k) t y due is = absurd due
no_null_asked o (row_due ks) t y due is = absurd due

pub no_null_refused : (e : Error) (x : ℕ) (s m t : State) → SeesTag s m x → is_null_at m.due x ≡ false → e ≡ stray_at m.due x
    → t ≡ record m { source = closed m.source } → Refuses reads_unit (Some asking_unit) bare e s t
no_null_refused e x s m t sees none reason state =
    let other : is_null_at s.due x ≡ false = sym (ap (λ (z : State). is_null_at z.due x) sees.state) ∙ none in
    seen_refused unit_at reads_unit asking_unit e x s m t asks_for_unit sees (λ y. no_null_asked s.opened s.due x y sees.due other) reason state

-- a null or a skip was taken
pub unit_read : (s m t : State) (x : ℕ) → SeesTag s m x → is_null_at m.due x ≡ true → t.source ≡ consumed 1 m.source → t ≡ past m t.source
    → Answers reads_unit (λ v c. c ≡ one) s t (tt {0})
unit_read s m t x sees is same state = record {
  tree = null;
  content = one;
  text = x ∷ [];
  filled = null_filled s.levels s.due x sees.due (sym (ap (λ (z : State). is_null_at z.due x) sees.state) ∙ is);
  read = refl;
  held = refl;
  took = tag_took s.source m.source t.source x sees.peeks same;
  state = state ∙ past_seen s m t.source sees.state;
}

-- ---- reals

pub asks_for_real : AsksFor real_at reads_real asking_real
asks_for_real = record { first = λ o n d x e p. ap (and_then (λ v. named.give tt)) p; clean = clean_reals }

pub wants_real : (d : Due) → WantsValue real_at d
wants_real d = wants_value real_at d (λ x. refl) (λ x. refl) (λ s x. refl) (λ ks x. refl)

pub other_real : (t : ℕ) → (t ≡ 0x07 → ⊥) → (y : List ℕ) → real_at (tag t) y ≡ refuses wrong_type
other_real t a y = rw (ne_eqb t 7 a) refl

nine : (y : List ℕ) (e : Error) → front 9 (0x07 ∷ y) ≡ refuses e → real_at (tag 0x07) y ≡ refuses e
nine y e h = go (nat_lt (length (0x07 ∷ y)) 9) refl h
  where
    go : (c : Bool) → nat_lt (length (0x07 ∷ y)) 9 ≡ c → cond c (refuses eof) (reads (take 9 (0x07 ∷ y)) (drop 9 (0x07 ∷ y))) ≡ refuses e
        → real_at (tag 0x07) y ≡ refuses e
    go true few k =
        let less : length (0x07 ∷ y) < 9 = ltb-true (length (0x07 ∷ y)) 9 few in
        let same : eof ≡ e = cc in
        ap (and_then _) (cut_front 8 y (omega (arith, less))) ∙ ap refuses same
    go false few k = absurd cc

real_asked : (o : ℕ) (d : Due) (y : List ℕ) (e : Error) → IsValueDue d → real_at (tag 0x07) y ≡ refuses e → asked real_at o d (0x07 ∷ y) ≡ refuses e
real_asked o nothing_due y e is h = absurd is
real_asked o node_due y e is h = h
real_asked o key_due y e is h = absurd is
real_asked o field_due y e is h = h
real_asked o (name_due k) y e is h = absurd is
real_asked o (row_due ks) y e is h = absurd is

-- the bits of a real are cut short
pub real_refused : (e : Error) (s m : State) (b : Window) (x : ℕ) → x ≡ 0x07 → SeesTag s m x → Fails e m.source b → Names (front 9) e m.source
    → Refuses reads_real (Some asking_real) bare e s (with_source s b)
real_refused e s m b x is sees fails said =
    due_refused real_at reads_real asking_real e s b asks_for_real (fails_before 1 e s.source m.source b sees.peeks.filled.grown fails)
    (peeked_names bare (asked real_at s.opened s.due) (front 9) e s.source m.source 0x07 (λ f y p. real_asked s.opened s.due y f sees.due (nine y f p))
    (subst (Peeks s.source m.source) is sees.peeks) (names_any bare (front 9) e m.source said))

-- the bits of a real were taken
pub real_read : (s m t : State) (n x : ℕ) → x ≡ 0x07 → SeesTag s m x → TookBits m.source t.source n → t ≡ past m t.source
    → Answers reads_real (λ v c. c ≡ number (pos v)) s t n
real_read s m t n x is sees bits state =
    let first : take 1 m.source.buffered ++ to_le_bytes w64 n ≡ 0x07 ∷ to_le_bytes w64 n =
    ap (λ l. take 1 l ++ to_le_bytes w64 n) sees.peeks.next ∙ ap (λ y. y ∷ to_le_bytes w64 n) is in
    let took : Took m.source t.source (0x07 ∷ to_le_bytes w64 n) = subst (Took m.source t.source) first bits.took in
    value_read reads_real (λ v c. c ≡ number (pos v)) s t (real n) (number (pos n)) n (0x07 ∷ to_le_bytes w64 n) sees.due (bits.fits, refl) refl refl
    (peeked_took s.source m.source t.source x (0x07 ∷ to_le_bytes w64 n) sees.peeks took (omega arith)) (state ∙ past_seen s m t.source sees.state)

-- ---- integers

pub asks_for_integer : (fits : ℤ → Bool) → AsksFor integer_at (reads_integer fits) (asking_integer fits)
asks_for_integer fits = record { first = λ o n d x e p. ap (and_then _) p; clean = clean_integers fits }

pub wants_integer : (d : Due) → WantsValue integer_at d
wants_integer d = wants_value integer_at d (λ x. refl) (λ x. refl) (λ s x. refl) (λ ks x. refl)

cut_value : (skips : Bool) (size : IntSize) (y : List ℕ) → length y < byte_len (width_of size)
    → and_then integer_at (value_tag skips (tag_of size) y) ≡ refuses eof
cut_value skips int8 y few = cut_after wrong_type int8 y few
cut_value skips int16 y few = cut_after wrong_type int16 y few
cut_value skips int32 y few = cut_after wrong_type int32 y few
cut_value skips int64 y few = cut_after wrong_type int64 y few

cut_asked : (o : ℕ) (d : Due) (x : List ℕ) → IsValueDue d → IsCutInteger x → asked integer_at o d x ≡ refuses eof
cut_asked o d x is (inl e) = nothing_left integer_at o d x (tagged_value d is) e
cut_asked o nothing_due x is (inr h) = absurd is
cut_asked o key_due x is (inr h) = absurd is
cut_asked o (name_due n) x is (inr h) = absurd is
cut_asked o (row_due ks) x is (inr h) = absurd is
cut_asked o node_due x is (inr h) = ap (asked integer_at o node_due) h.whole ∙ cut_value false h.size h.rest h.fewer
cut_asked o field_due x is (inr h) = ap (asked integer_at o field_due) h.whole ∙ cut_value true h.size h.rest h.fewer

-- an integer that is due is cut short
pub cut_names : (e : Error) (s : State) → IsValueDue s.due → CutsInteger e s.source → NamesDue bare integer_at e s
cut_names e s is h =
    names_any bare (asked integer_at s.opened s.due) e s.source
    (blames_more _ _ e s.source (λ f x p. cut_asked s.opened s.due x is p.0 ∙ ap refuses (sym p.1)) h)

-- a byte that is no integer's tag stands there
pub no_int_names : (t : ℕ) (s : State) (b : Window) → IsValueDue s.due → NoInt s.source b (Tag t) → NamesDue bare integer_at (stray_at s.due t) s
no_int_names t s b due is =
    grown_left bare (asked integer_at s.opened s.due) (stray_at s.due t) is.need s.source b t
    (λ y. stray_asked integer_at s.opened s.due t y (tagged_value s.due due) (other_after wrong_type t y is.other.other)) is.grown is.other.next

pub no_int_refused : (fits : ℤ → Bool) (e : Error) (x : ℕ) (s : State) (b c : Window) → IsValueDue s.due → NoInt s.source b (Tag x) → e ≡ stray_at s.due x → c ≡ closed b
    → Refuses (reads_integer fits) (Some (asking_integer fits)) bare e s (with_source s c)
no_int_refused fits e x s b c due is reason same =
    let fails = grown_fails is.need (stray_at s.due x) s.source b c (stray_kind s.due x) is.grown is.working same in
    due_refused integer_at (reads_integer fits) (asking_integer fits) e s c (asks_for_integer fits)
    (subst (λ z. Fails z s.source c) (sym reason) fails)
    (subst (λ z. NamesDue bare integer_at z s) (sym reason) (no_int_names x s b due is))

fits_w64 : (size : IntSize) (v : ℤ) → FitsSigned (width_of size) v → FitsSigned w64 v
fits_w64 int8 v h = omega (arith, ints, h)
fits_w64 int16 v h = omega (arith, ints, h)
fits_w64 int32 v h = omega (arith, ints, h)
fits_w64 int64 v h = h

signed_64 : (v : ℤ) → FitsSigned w64 v → is_signed 64 v ≡ true
signed_64 (pos n) h = lt-ltb n (2 ^ 63) (omega (arith, ints, h))
signed_64 (negsuc n) h = lt-ltb n (2 ^ 63) (omega (arith, ints, h))

-- an integer that is due was taken
pub integer_read : (s t : State) (v w : ℤ) → w ≡ v → IsValueDue s.due → TookInt s.source t.source v → t ≡ past s t.source
    → Answers (reads_signed 64) (λ x c. c ≡ number x) s t w
integer_read s t v w same is took state =
    value_read (reads_signed 64) (λ x c. c ≡ number x) s t (integer v) (number v) w took.text is took.spelled
    (ap (λ x. if x then Some (number v) else None) (signed_64 v (fits_w64 took.spelled.size v took.spelled.fits))) (ap number (sym same)) took.took state
