-- The heads of containers: what reads them off the bytes left, what names their refusals, and what is open behind them.
use Rattle.std.proofs.Common.{◌≡◌, ℕ, zero, suc, ◌+◌, ◌-◌, ◌≤◌, Bool, true, false, cond, ◌||◌, pos, List, [], ◌∷◌, ◌++◌, take, nat_eq, nat_lt, ◌<◌, length, refl, sym, ap, subst, ◌∙◌, append-nil, arith}
use Rattle.std.proofs.lemmas.Bool.{eqb-true, ltb-true}
use Rattle.bser_format.specs.Grammar.{Format, Bytes, SpellsCount, ◌then◌, Each, SpellsKey}
use Rattle.bser_format.specs.Expected.{Due, nothing_due, node_due, key_due, field_due, name_due, row_due, WantedItems, nodes, rows_over, WantedPairs, entries_of_object, fields_of_row}
use Rattle.bser_format.specs.declared.errors.Error.{Error}
use Rattle.bser_format.specs.declared.errors.Error.TheVariants.{DeInvalidStartByte, DeRecursionLimitExceeded}
use Rattle.bser_format.specs.declared.errors.Kind.{Kind}
use Rattle.bser_format.specs.declared.errors.Kind.TheVariants as kinds
use Rattle.bser_format.specs.declared.errors.Kind.TheVariants.{NextItem, TemplateKey}
use Rattle.bser_source.specs.Device.{one_more}
use Rattle.std.proofs.KnownBytes.{Consumes-nil}
use Rattle.bser_source.specs.Window.{Window, AreOctets, Within, Took, consumed}
use Rattle.bser_source.proofs.Windows.{grown_none, taken_after, took_then}
use Rattle.bser_format.specs.Named.{Reader, reads, refuses, give, refuse, and_then, ◌>>=◌, next, count, many, text_of}
use Rattle.bser_format.specs.DueReaders.{Seen, tag, is_tag, asked, items_at, pairs_at, rows_wanted, table_at}
use Rattle.bser_format.proofs.Steps.{Passes, passes_then}
use Rattle.bser_format.proofs.Heads.{count_passes, keys_pass}
use Rattle.bser_bunser.specs.Names.{Names}
use Rattle.bser_bunser.specs.Refusal.{Fails}
use Rattle.bser_bunser.specs.Tagged.{TookInt}
use Rattle.bser_deserializer.specs.State.{State, refused}
use Rattle.bser_deserializer.specs.Reading.{RefusesFront, NamesBy, NamesDue, IsRefusal, bare, owned, Needs}
use Rattle.bser_deserializer.specs.Dues.{IsValueDue}
use Rattle.bser_deserializer.specs.Parts.{CountedHead, ItemsHead, BeginsItems, BeginsPairs, ObjectHead}
use Rattle.bser_deserializer.specs.Access.{OpenItems, OpenPairs, OpensItems, OpensPairs, IsItemsHead, IsPairsHead}
use Rattle.bser_deserializer.proofs.Clean.{clean_asked, clean_items, clean_pairs}
use Rattle.bser_deserializer.proofs.Refusals.{by_name, names_any, names_by_untaken, fails_untaken}
use Rattle.bser_deserializer.specs.View.{IsBefore}
use Rattle.bser_deserializer.proofs.Tags.{grown_left, grown_fails}

-- ---- a tag, and what follows it

pub unequal : (t u : ℕ) → (t ≡ u → ⊥) → nat_eq t u ≡ false
unequal t u other = go (nat_eq t u) refl
  where
    go : (c : Bool) → nat_eq t u ≡ c → c ≡ false
    go true e = absurd (other (eqb-true t u e))
    go false e = refl

-- a tag that may stand where a value or a field is due
abbrev pub IsTag : ℕ → Type 0
IsTag t = (skips : Bool) → is_tag skips t ≡ true

tag_octet : (t : ℕ) → is_tag false t ≡ true → t < 256
tag_octet t is = go (nat_lt t 0x0c) refl (nat_eq t 0x0d) refl is
  where
    go : (a : Bool) → nat_lt t 0x0c ≡ a → (b : Bool) → nat_eq t 0x0d ≡ b → (a || b || false) ≡ true → t < 256
    go true e b f h = omega (arith, ltb-true t 0x0c e)
    go false e true f h = omega (arith, eqb-true t 0x0d f)
    go false e false f h = absurd cc

-- where a value is due, its tag is read first
asked_tag : {X : Type 0} (k : Seen → Reader X) (o t : ℕ) (d : Due) (x : List ℕ) → IsValueDue d → IsTag t → asked k o d (t ∷ x) ≡ k (tag t) x
asked_tag k o t node_due x v is = ap (λ c. and_then k (cond c (give (tag t)) (refuse (DeInvalidStartByte NextItem t)) x)) (is false)
asked_tag k o t field_due x v is = ap (λ c. and_then k (cond c (give (tag t)) (refuse (DeInvalidStartByte NextItem t)) x)) (is true)
asked_tag k o t nothing_due x v is = absurd v
asked_tag k o t key_due x v is = absurd v
asked_tag k o t (name_due n) x v is = absurd v
asked_tag k o t (row_due ks) x v is = absurd v

pub tagged : (t : ℕ) (G : Format) (text : List ℕ) → (Bytes (t ∷ []) then G) text → (rest : List ℕ) × (text ≡ t ∷ rest) × G rest
tagged t G text h = (h.rest, h.whole ∙ ap (λ c. c ++ h.rest) h.first, h.second)

-- a tag and what k reads then
tag_then : {X : Type 0} (k : Seen → Reader X) (o t : ℕ) (d : Due) (v : X) (G : Format) (text : List ℕ) → IsValueDue d → IsTag t
    → ((c : List ℕ) → G c → Passes (k (tag t)) v c) → (Bytes (t ∷ []) then G) text → Passes (asked k o d) v text
tag_then k o t d v G text value is second h x =
    let p = tagged t G text h in
    ap (λ l. asked k o d (l ++ x)) p.1 ∙ asked_tag k o t d (p.0 ++ x) value is ∙ second p.0 p.2 x

-- ---- heads that are read

-- a count, and what is made of it
count_then : {X : Type 0} (make : ℕ → X) (k : ℕ) (c : List ℕ) → SpellsCount k c → Passes (count >>= λ n. give (make n)) (make k) c
count_then make k c h x = ap (and_then (λ n. give (make n))) (count_passes k c h x)

byte_passes : (t : ℕ) (c : List ℕ) → Bytes (t ∷ []) c → Passes next t c
byte_passes t c e x = ap (λ l. next (l ++ x)) e

rows_pass : (ks : List (List ℕ)) (k : ℕ) → (ks ≡ [] → k ≡ 0) → (x : List ℕ) → rows_wanted ks k x ≡ reads (rows_over ks k) x
rows_pass [] zero some x = refl
rows_pass [] (suc k) some x = absurd (let e = some refl in cc)
rows_pass (l ∷ ks) k some x = refl

-- a template's keys and its count of rows, after its two tags
template_passes : (n : ℕ) (ks : List (List ℕ)) (k : ℕ) (c : List ℕ) → (ks ≡ [] → k ≡ 0) → (SpellsCount (length ks) then Each SpellsKey ks then SpellsCount k) c → Passes (table_at (suc n) 0x00) (rows_over ks k) c
template_passes n ks k c some h =
    passes_then count (λ j. many (text_of TemplateKey) j >>= λ us. count >>= λ i. rows_wanted us i) (length ks) (rows_over ks k) (SpellsCount (length ks)) (Each SpellsKey ks then SpellsCount k) c (count_passes (length ks))
    (λ c g. passes_then (many (text_of TemplateKey) (length ks)) (λ us. count >>= λ i. rows_wanted us i) ks (rows_over ks k) (Each SpellsKey ks) (SpellsCount k) c (keys_pass ks)
    (λ c g x. ap (and_then (rows_wanted ks)) (count_passes k c g x) ∙ rows_pass ks k some x) g) h

pub value_or_field : (n : ℕ) (d : Due) (w : WantedItems) (text : List ℕ) → BeginsItems n d w text → IsValueDue d × ItemsHead n w text
value_or_field n node_due w text h = (tt, h)
value_or_field n field_due w text h = (tt, h)
value_or_field n nothing_due w text h = absurd h
value_or_field n key_due w text h = absurd h
value_or_field n (name_due k) w text h = absurd h
value_or_field n (row_due ks) w text h = absurd h

head_passes : (o n : ℕ) (d : Due) (w : WantedItems) (text : List ℕ) → IsValueDue d → ItemsHead n w text → Passes (asked (items_at n) o d) w text
head_passes o zero d (nodes k) text v h = absurd h
head_passes o (suc n) d (nodes k) text v h =
    tag_then (items_at (suc n)) o 0x00 d (nodes k) (SpellsCount k) text v (λ s. refl) (count_then (λ i. nodes i) k) h
head_passes o zero d (rows_over ks k) text v h = absurd h
head_passes o (suc zero) d (rows_over ks k) text v h = absurd h
head_passes o (suc (suc n)) d (rows_over ks k) text v (some, h) =
    let T : Format = SpellsCount (length ks) then Each SpellsKey ks then SpellsCount k in
    tag_then (items_at (suc (suc n))) o 0x0b d (rows_over ks k) (Bytes (0x00 ∷ []) then T) text v (λ s. refl)
    (λ c g. passes_then next (table_at (suc n)) 0x00 (rows_over ks k) (Bytes (0x00 ∷ [])) T c (byte_passes 0x00) (λ b t. template_passes n ks k b some t) g) h

-- the head of an array or a template is read off
pub items_pass : (o n : ℕ) (d : Due) (w : WantedItems) (text : List ℕ) → BeginsItems n d w text → Passes (asked (items_at n) o d) w text
items_pass o n d w text h = let p = value_or_field n d w text h in head_passes o n d w text p.0 p.1

object_passes : (o n : ℕ) (d : Due) (k : ℕ) (text : List ℕ) → IsValueDue d → ObjectHead n k text → Passes (asked (pairs_at n) o d) (entries_of_object k) text
object_passes o zero d k text v h = absurd h
object_passes o (suc n) d k text v h =
    tag_then (pairs_at (suc n)) o 0x01 d (entries_of_object k) (SpellsCount k) text v (λ s. refl) (count_then (λ i. entries_of_object i) k) h

-- the head of an object is read off, or a row
pub pairs_pass : (o n : ℕ) (d : Due) (w : WantedPairs) (text : List ℕ) → BeginsPairs n d w text → Passes (asked (pairs_at n) o d) w text
pairs_pass o n node_due (entries_of_object k) text h = object_passes o n node_due k text tt h
pairs_pass o n field_due (entries_of_object k) text h = object_passes o n field_due k text tt h
pairs_pass o n (row_due ks) (fields_of_row ls) text (same, none) = λ x. ap (λ l. reads (fields_of_row l) (text ++ x)) (sym same) ∙ ap (λ l. reads (fields_of_row ls) (l ++ x)) none
pairs_pass o n node_due (fields_of_row ks) text h = absurd h
pairs_pass o n field_due (fields_of_row ks) text h = absurd h
pairs_pass o n (row_due ks) (entries_of_object k) text h = absurd h
pairs_pass o n nothing_due w text h = absurd h
pairs_pass o n key_due w text h = absurd h
pairs_pass o n (name_due k) w text h = absurd h

-- ---- what is refused, by its name

-- what holds after a refusal, and its name
abbrev pub NamedRefusal : {X : Type 0} → Needs → (Seen → Reader X) → Error → State → Window → Type 0
NamedRefusal needs k e s c = Fails e s.source c × NamesDue needs k e s

-- what refuses items, by its name
abbrev pub RefusesHead : Needs → Error → State → Window → Type 0
RefusesHead needs e s c = RefusesFront needs (IsItemsHead s) (NamesDue needs (items_at s.levels) e s) e s.source c

-- what refuses pairs, by its name
abbrev pub RefusesPairsHead : Needs → Error → State → Window → Type 0
RefusesPairsHead needs e s c = RefusesFront needs (IsPairsHead s) (NamesDue needs (pairs_at s.levels) e s) e s.source c

pub items_front : (s : State) (text : List ℕ) → IsItemsHead s text → (v : WantedItems) × Passes (asked (items_at s.levels) s.opened s.due) v text
items_front s text h = (h.0, items_pass s.opened s.levels s.due h.0 text h.1)

pub pairs_front : (s : State) (text : List ℕ) → IsPairsHead s text → (v : WantedPairs) × Passes (asked (pairs_at s.levels) s.opened s.due) v text
pairs_front s text h = (h.0, pairs_pass s.opened s.levels s.due h.0 text h.1)

pub items_refused : (needs : Needs) (e : Error) (s : State) (c : Window) → (needs.memory || needs.keys ≡ needs.memory) → NamedRefusal needs (items_at s.levels) e s c → RefusesHead needs e s c
items_refused needs e s c no_keys (fails, name) =
    by_name needs (IsItemsHead s) (asked (items_at s.levels) s.opened s.due) e s.source c (items_front s) (λ x. clean_asked (items_at s.levels) (clean_items s.levels) s.opened s.due x e) no_keys fails name

pub pairs_refused : (needs : Needs) (e : Error) (s : State) (c : Window) → (needs.memory || needs.keys ≡ needs.memory) → NamedRefusal needs (pairs_at s.levels) e s c → RefusesPairsHead needs e s c
pairs_refused needs e s c no_keys (fails, name) =
    by_name needs (IsPairsHead s) (asked (pairs_at s.levels) s.opened s.due) e s.source c (pairs_front s) (λ x. clean_asked (pairs_at s.levels) (clean_pairs s.levels) s.opened s.due x e) no_keys fails name

-- the tag that is next was taken
pub took_tag : (t : ℕ) (s : State) (b : Window) → IsBefore t s → IsTag t → b ≡ consumed 1 s.source → Took s.source b (t ∷ [])
took_tag t s b before is after =
    let fits : 1 ≤ length s.source.buffered = omega (arith, ap length before.next) in
    let first : take 1 s.source.buffered ≡ t ∷ [] = ap (take 1) before.next in
    let octet : AreOctets (take 1 s.source.buffered) = subst AreOctets (sym first) (tag_octet t (is false), tt) in
    subst (Took s.source b) first (subst (λ z. Took s.source z (take 1 s.source.buffered)) (sym after) (taken_after 0 1 s.source s.source (grown_none s.source) octet (omega arith) fits before.working))

-- what follows the tag is refused, by the same name
pub rest_refused : {X Y : Type 0} (needs : Needs) (k : Seen → Reader X) (r : Reader Y) (t : ℕ) (e : Error) (s : State) (b c : Window) → IsBefore t s → IsTag t
    → ((f : Error) (x : List ℕ) → r x ≡ refuses f → k (tag t) x ≡ refuses f) → b ≡ consumed 1 s.source → Fails e b c → NamesBy needs r e b → NamedRefusal needs k e s c
rest_refused needs k r t e s b c before is same after fails name =
    let took = took_tag t s b before is after in (
      fails_untaken e s.source b c (t ∷ []) took fails,
      names_by_untaken needs (asked k s.opened s.due) r e s.source b (t ∷ []) (λ f x h. asked_tag k s.opened t s.due x before.due is ∙ same f x h) took name,
    )

-- whatever follows the tag, no level is left for it
no_level : {X : Type 0} (needs : Needs) (k : Seen → Reader X) (t : ℕ) (kind : Kind) (e : Error) (s u : State) → IsBefore t s → IsTag t
    → ((x : List ℕ) → k (tag t) x ≡ refuses (DeRecursionLimitExceeded kind)) → e ≡ DeRecursionLimitExceeded kind → u ≡ refused s → NamedRefusal needs k e s u.source
no_level needs k t kind e s u before is same reason state = (
  grown_fails 0 e s.source s.source u.source (subst IsRefusal (sym reason) tt) (grown_none s.source) before.working (ap (λ z. z.source) state),
  grown_left needs (asked k s.opened s.due) e 0 s.source s.source t (λ y. asked_tag k s.opened t s.due y before.due is ∙ same y ∙ ap refuses (sym reason)) (grown_none s.source) before.next,
)

array_level : (n : ℕ) (x : List ℕ) → n ≡ 0 → items_at n (tag 0x00) x ≡ refuses (DeRecursionLimitExceeded kinds.Array)
array_level zero x e = refl
array_level (suc n) x e = absurd cc

template_level : (n : ℕ) (x : List ℕ) → n ≡ 0 → items_at n (tag 0x0b) x ≡ refuses (DeRecursionLimitExceeded kinds.Template)
template_level zero x e = refl
template_level (suc n) x e = absurd cc

object_level : (n : ℕ) (x : List ℕ) → n ≡ 0 → pairs_at n (tag 0x01) x ≡ refuses (DeRecursionLimitExceeded kinds.Object)
object_level zero x e = refl
object_level (suc n) x e = absurd cc

pub no_level_array : (e : Error) (s u : State) → IsBefore 0x00 s → e ≡ DeRecursionLimitExceeded kinds.Array → s.levels ≡ 0 → u ≡ refused s → RefusesHead bare e s u.source
no_level_array e s u before reason none state =
    items_refused bare e s u.source refl (no_level bare (items_at s.levels) 0x00 kinds.Array e s u before (λ b. refl) (λ x. array_level s.levels x none) reason state)

pub no_level_template : (e : Error) (s u : State) → IsBefore 0x0b s → e ≡ DeRecursionLimitExceeded kinds.Template → s.levels ≡ 0 → u ≡ refused s → RefusesHead owned e s u.source
no_level_template e s u before reason none state =
    items_refused owned e s u.source refl (no_level owned (items_at s.levels) 0x0b kinds.Template e s u before (λ b. refl) (λ x. template_level s.levels x none) reason state)

pub no_level_object : (e : Error) (s u : State) → IsBefore 0x01 s → e ≡ DeRecursionLimitExceeded kinds.Object → s.levels ≡ 0 → u ≡ refused s → RefusesPairsHead bare e s u.source
no_level_object e s u before reason none state =
    pairs_refused bare e s u.source refl (no_level bare (pairs_at s.levels) 0x01 kinds.Object e s u before (λ b. refl) (λ x. object_level s.levels x none) reason state)

-- ---- the count is refused

array_count : (n m : ℕ) (e : Error) (x : List ℕ) → n ≡ m + 1 → count x ≡ refuses e → items_at n (tag 0x00) x ≡ refuses e
array_count zero m e x some h = absurd (omega (arith, some))
array_count (suc n) m e x some h = ap (and_then (λ k. give (nodes k))) h

object_count : (n m : ℕ) (e : Error) (x : List ℕ) → n ≡ m + 1 → count x ≡ refuses e → pairs_at n (tag 0x01) x ≡ refuses e
object_count zero m e x some h = absurd (omega (arith, some))
object_count (suc n) m e x some h = ap (and_then (λ k. give (entries_of_object k))) h

pub array_refused : (e : Error) (s : State) (m : ℕ) (b c : Window) → IsBefore 0x00 s → s.levels ≡ m + 1 → b ≡ consumed 1 s.source → Fails e b c → Names count e b → RefusesHead bare e s c
array_refused e s m b c before some after fails name =
    items_refused bare e s c refl (rest_refused bare (items_at s.levels) count 0x00 e s b c before (λ z. refl) (λ f x h. array_count s.levels m f x some h) after fails (names_any bare count e b name))

pub object_refused : (e : Error) (s : State) (m : ℕ) (b c : Window) → IsBefore 0x01 s → s.levels ≡ m + 1 → b ≡ consumed 1 s.source → Fails e b c → Names count e b → RefusesPairsHead bare e s c
object_refused e s m b c before some after fails name =
    pairs_refused bare e s c refl (rest_refused bare (pairs_at s.levels) count 0x01 e s b c before (λ z. refl) (λ f x h. object_count s.levels m f x some h) after fails (names_any bare count e b name))

-- ---- what was opened

pub items_begin : (n : ℕ) (d : Due) (w : WantedItems) (text : List ℕ) → IsValueDue d → ItemsHead n w text → BeginsItems n d w text
items_begin n node_due w text v h = h
items_begin n field_due w text v h = h
items_begin n nothing_due w text v h = absurd v
items_begin n key_due w text v h = absurd v
items_begin n (name_due k) w text v h = absurd v
items_begin n (row_due ks) w text v h = absurd v

object_begins : (n : ℕ) (d : Due) (k : ℕ) (text : List ℕ) → IsValueDue d → ObjectHead n k text → BeginsPairs n d (entries_of_object k) text
object_begins n node_due k text v h = h
object_begins n field_due k text v h = h
object_begins n nothing_due k text v h = absurd v
object_begins n key_due k text v h = absurd v
object_begins n (name_due l) k text v h = absurd v
object_begins n (row_due ks) k text v h = absurd v

counted_head : (t n m k : ℕ) (rest : List ℕ) → n ≡ m + 1 → SpellsCount k rest → CountedHead t n k (t ∷ rest)
counted_head t zero m k rest e h = absurd (omega (arith, e))
counted_head t (suc n) m k rest e h = record { front = t ∷ []; rest = rest; whole = refl; first = refl; second = h }

-- what is counted begins with its tag
pub counted_rest : (t n k : ℕ) (text : List ℕ) → CountedHead t n k text → (rest : List ℕ) × (text ≡ t ∷ rest)
counted_rest t zero k text h = absurd h
counted_rest t (suc n) k text h = let p = tagged t (SpellsCount k) text h in (p.0, p.1)

-- the state inside, with a level less
abbrev pub inside : State → ℕ → Window → State
inside s m c = record s { source = c; due = nothing_due; levels = m; opened = one_more s.opened }

inside_less : (s : State) (m : ℕ) (c : Window) → s.levels ≡ m + 1 → inside s m c ≡ inside s (s.levels - 1) c
inside_less s m c levels = let less : m ≡ s.levels - 1 = omega (arith, levels) in ap (λ n. inside s n c) less

pub opens_array : (s t : State) (m k : ℕ) (b c : Window) → IsBefore 0x00 s → s.levels ≡ m + 1 → b ≡ consumed 1 s.source → TookInt b c (pos k) → t ≡ inside s m c
    → OpensItems s (record { state = t; wanted = nodes k; levels = s.levels; opened = s.opened })
opens_array s t m k b c before levels after part state =
    subst (λ z. OpensItems s (record { state = z; wanted = nodes k; levels = s.levels; opened = s.opened })) (sym state) (record {
      text = 0x00 ∷ part.text;
      head = items_begin s.levels s.due (nodes k) (0x00 ∷ part.text) before.due (counted_head 0x00 s.levels m k part.text levels part.spelled);
      took = took_then s.source b c (0x00 ∷ []) part.text (took_tag 0x00 s b before (λ z. refl) after) part.took;
      state = inside_less s m c levels;
      levels = refl;
      opened = refl;
    })

pub opens_object : (s t : State) (m k : ℕ) (b c : Window) → IsBefore 0x01 s → s.levels ≡ m + 1 → b ≡ consumed 1 s.source → TookInt b c (pos k) → t ≡ inside s m c
    → OpensPairs s (record { state = t; wanted = entries_of_object k; pending = false; levels = s.levels; opened = s.opened })
opens_object s t m k b c before levels after part state =
    subst (λ z. OpensPairs s (record { state = z; wanted = entries_of_object k; pending = false; levels = s.levels; opened = s.opened })) (sym state) (record {
      text = 0x01 ∷ part.text;
      head = object_begins s.levels s.due k (0x01 ∷ part.text) before.due (counted_head 0x01 s.levels m k part.text levels part.spelled);
      took = took_then s.source b c (0x01 ∷ []) part.text (took_tag 0x01 s b before (λ z. refl) after) part.took;
      state = inside_less s m c levels;
      pending = refl;
      levels = refl;
      opened = refl;
    })

pub took_nothing : (a : Window) → a.failed ≡ false → Took a a []
took_nothing a works = record {
  more = [];
  bytes = append-nil a.buffered;
  device = Consumes-nil a.beyond;
  octets = tt;
  within = λ n h. subst (λ k. Within k a) (let e : n + 0 ≡ n = omega arith in e) h;
  count = omega arith;
  limit = refl;
  lends = refl;
  working = works;
  failed = works;
  failures = refl;
  through = refl;
}

row_begins : (n : ℕ) (d : Due) (ks : List (List ℕ)) → d ≡ row_due ks → BeginsPairs n d (fields_of_row ks) []
row_begins n d ks e = subst (λ z. BeginsPairs n z (fields_of_row ks) []) (sym e) (refl, refl)

pub opens_row : (s t : State) → s.due ≡ row_due s.keys → s.source.failed ≡ false → t ≡ record s { due = nothing_due; opened = one_more s.opened }
    → OpensPairs s (record { state = t; wanted = fields_of_row t.keys; pending = false; levels = s.levels; opened = s.opened })
opens_row s t due works state =
    subst (λ (z : State). OpensPairs s (record { state = z; wanted = fields_of_row z.keys; pending = false; levels = s.levels; opened = s.opened })) (sym state) (record {
      text = [];
      head = row_begins s.levels s.due s.keys due;
      took = took_nothing s.source works;
      state = refl;
      pending = refl;
      levels = refl;
      opened = refl;
    })

-- ---- in an equal state

pub refused_items_in : (needs : Needs) (e : Error) (s t : State) (c : Window) → s ≡ t → RefusesHead needs e s c → RefusesHead needs e t c
refused_items_in needs e s t c same u = subst (λ (z : State). RefusesHead needs e z c) same u

pub refused_pairs_in : (needs : Needs) (e : Error) (s t : State) (c : Window) → s ≡ t → RefusesPairsHead needs e s c → RefusesPairsHead needs e t c
refused_pairs_in needs e s t c same u = subst (λ (z : State). RefusesPairsHead needs e z c) same u

pub opens_items_in : (s t : State) (a : OpenItems) → s ≡ t → OpensItems s a → OpensItems t a
opens_items_in s t a same o = subst (λ (z : State). OpensItems z a) same o

pub opens_pairs_in : (s t : State) (a : OpenPairs) → s ≡ t → OpensPairs s a → OpensPairs t a
opens_pairs_in s t a same o = subst (λ (z : State). OpensPairs z a) same o
