-- Tuples that are read part by part. No template is read where one of the parts reads no object.
use Rattle.std.proofs.Common.{◌≡◌, ℕ, zero, suc, ◌-◌, ◌<◌, Bool, true, false, List, [], ◌∷◌, ◌++◌, Option, Some, None, inl, inr, refl, sym, ap, subst, ◌∙◌, arith}
use Rattle.std.proofs.lemmas.Bool.{or_left, or_right}
use Rattle.std.proofs.lemmas.List.{append-nil}
use Rattle.std.specs.Prelude.{option_map}
use Rattle.bser_format.specs.Tree.{Tree, null, boolean, integer, real, bytes, text, array, object, template, Items, items}
use Rattle.bser_format.specs.Content.{Content, Meaning}
use Rattle.bser_format.specs.Grammar.{Each}
use Rattle.bser_format.specs.Expected.{Fills, node_due, row_due, WantedItems, nodes, rows_over}
use Rattle.bser_format.specs.ReadsHolders.{list_of, reads_each, reads_tuple}
use Rattle.bser_format.specs.declared.errors.Error.{Error}
use Rattle.bser_format.specs.declared.errors.Complaint.TheVariants as complaints
use Rattle.bser_format.specs.Named.{Reader, refuses, and_then, give, complain}
use Rattle.bser_format.specs.DueReaders.{asked, items_at, less_one}
use Rattle.bser_format.specs.Asks.{Asks, parts_asked, tuple_asked}
use Rattle.bser_format.proofs.Steps as steps
use Rattle.bser_format.proofs.Steps.{Continues, first_read}
use Rattle.bser_deserializer.specs.State.{State, awaiting}
use Rattle.bser_deserializer.specs.Reading.{Answers, Asking, Refuses, FillsReadably, only_keys, Needs}
use Rattle.bser_deserializer.specs.Required.{RefusesRequired}
use Rattle.bser_deserializer.specs.Parts.{BeginsItems, items_left, item_due, items_after}
use Rattle.bser_deserializer.specs.Access.{OpenItems, OpensItems, IsArrayHead, RefusesItems, IsNextItem, ClosesItems, LeavesItems, inside_items}
use Rattle.bser_deserializer.specs.HoldsLists.{HoldsEach, HoldsTuple}
use Rattle.bser_deserializer.proofs.Containers.{items_pass}
use Rattle.bser_types.specs.Slots.{any_lent}
use Rattle.bser_types.specs.Askings.{counted, PartAskings, AllAsked, joined, all_asked, asking_parts, asking_tuple}
use Rattle.bser_types.specs.Tuples.{Plain, may_read_rows, any_memory, tuple_needs}
use Rattle.bser_types.proofs.Naming.{Asked, StepAsked, HeadAsked, FirstAsked, NoneAsked, asked_inside, part_passes}
use Rattle.bser_types.proofs.Items.{items_begin, items_only}
use Rattle.bser_types.proofs.Arrays.{ReadsArrays, ReadsNext, Inside, inside_start, inside_next, inside_end, inner_levels, inner_opened, opening_refused, array_refused, item_refused, leaves_refused, over_refused}
use Rattle.bser_types.proofs.Lists.{more_of, before, one_more_content, first_some}

-- ---- what is made of the parts that are left

abbrev pub rest_of_tuple : List Meaning → List Content → List Tree → Option Content
rest_of_tuple Ts cs ts = more_of cs (reads_each Ts ts)

tuple_next : (T : Meaning) (Ts : List Meaning) (cs : List Content) → ReadsNext T (rest_of_tuple (T ∷ Ts) cs) (λ c. rest_of_tuple Ts (cs ++ c ∷ []))
tuple_next T Ts cs = record {
  next = λ t c ts read. ap (λ o. more_of cs (before (reads_each Ts ts) o)) read ∙ one_more_content cs c (reads_each Ts ts);
  some = λ t ts c e. first_some cs (T t) (reads_each Ts ts) c e;
}

tuple_only : (Ts : List Meaning) (t : Tree) (c : Content) → reads_tuple Ts t ≡ Some c → (us : Items) × (t ≡ array us)
tuple_only Ts null c e = absurd cc
tuple_only Ts (boolean v) c e = absurd cc
tuple_only Ts (integer v) c e = absurd cc
tuple_only Ts (real v) c e = absurd cc
tuple_only Ts (bytes v) c e = absurd cc
tuple_only Ts (text v) c e = absurd cc
tuple_only Ts (array us) c e = (us, refl)
tuple_only Ts (object es) c e = absurd cc
tuple_only Ts (template ks rs) c e = absurd cc

reads_parts : (Ts : List Meaning) → ReadsArrays (reads_tuple Ts) (rest_of_tuple Ts [])
reads_parts Ts = record { same = λ us. refl; only = tuple_only Ts }

no_part : (cs : List Content) (ts : List Tree) (c : Content) → rest_of_tuple [] cs ts ≡ Some c → ts ≡ []
no_part cs [] c e = refl
no_part cs (t ∷ ts) c e = absurd cc

-- ---- what is left to be asked for

-- the parts that are left of an array that was opened in the state o, where they all tell what they ask for
abbrev pub parts_now : {Ts : List Meaning} → Option (AllAsked Ts) → State → WantedItems → Reader Unit
parts_now None o w = give tt
parts_now (Some r) o w = tuple_asked r.asks (suc o.opened) (less_one o.levels) w

-- where all parts of the whole tell, so do those that are left
abbrev pub LeftTell : {As Ts : List Meaning} → Option (AllAsked As) → Option (AllAsked Ts) → Type 0
LeftTell None left = Unit {0}
LeftTell (Some r) None = ⊥
LeftTell (Some r) (Some s) = Unit {0}

-- a part was passed over
part_passed : (A : Asks) (As : List Asks) (o n : ℕ) (w : WantedItems) (taken : List ℕ) → 0 < items_left w → steps.Passes (A o n (item_due w)) tt taken
    → Continues (tuple_asked (A ∷ As) o n w) (tuple_asked As o n (items_after w)) taken
part_passed A As o n (nodes zero) taken some is = absurd (omega (arith, some))
part_passed A As o n (nodes (suc k)) taken some is =
    let e : k ≡ suc k - 1 = omega arith in
    λ x. first_read (A o n node_due) (λ u. parts_asked As o n node_due k) tt taken is x ∙ ap (λ j. parts_asked As o n node_due j x) e
part_passed A As o n (rows_over ks zero) taken some is = absurd (omega (arith, some))
part_passed A As o n (rows_over ks (suc k)) taken some is =
    let e : k ≡ suc k - 1 = omega arith in
    λ x. first_read (A o n (row_due ks)) (λ u. parts_asked As o n (row_due ks) k) tt taken is x ∙ ap (λ j. parts_asked As o n (row_due ks) j x) e

-- what refuses a part refuses all that are left
part_first : (A : Asks) (As : List Asks) (o n : ℕ) (w : WantedItems) (x : List ℕ) (e : Error) → 0 < items_left w → A o n (item_due w) x ≡ refuses e → tuple_asked (A ∷ As) o n w x ≡ refuses e
part_first A As o n (nodes zero) x e some h = absurd (omega (arith, some))
part_first A As o n (nodes (suc k)) x e some h = ap (and_then (λ u. parts_asked As o n node_due k)) h
part_first A As o n (rows_over ks zero) x e some h = absurd (omega (arith, some))
part_first A As o n (rows_over ks (suc k)) x e some h = ap (and_then (λ u. parts_asked As o n (row_due ks) k)) h

-- no item is left for a part
none_over : (A : Asks) (As : List Asks) (o n : ℕ) (w : WantedItems) (x : List ℕ) → items_left w ≡ 0 → tuple_asked (A ∷ As) o n w x ≡ refuses (complain complaints.TooFewItems)
none_over A As o n (nodes zero) x none = refl
none_over A As o n (nodes (suc k)) x none = absurd (omega (arith, none))
none_over A As o n (rows_over ks zero) x none = refl
none_over A As o n (rows_over ks (suc k)) x none = absurd (omega (arith, none))

-- items are left for no part
some_over : (o n : ℕ) (w : WantedItems) (x : List ℕ) → 0 < items_left w → tuple_asked [] o n w x ≡ refuses (complain complaints.ItemsLeft)
some_over o n (nodes zero) x some = absurd (omega (arith, some))
some_over o n (nodes (suc k)) x some = refl
some_over o n (rows_over ks zero) x some = absurd (omega (arith, some))
some_over o n (rows_over ks (suc k)) x some = refl

tuple_begins : (Ts : List Meaning) (all : Option (AllAsked Ts)) (o : State) (w : WantedItems) (taken : List ℕ) → BeginsItems o.levels o.due w taken → Asked (option_map asking_parts all) o (parts_now all o w) taken
tuple_begins Ts None o w taken head = tt
tuple_begins Ts (Some r) o w taken head =
    first_read (asked (items_at o.levels) o.opened o.due) (tuple_asked r.asks (suc o.opened) (less_one o.levels)) w taken (items_pass o.opened o.levels o.due w taken head)

tuple_head : (Ts : List Meaning) (all : Option (AllAsked Ts)) (o : State) → HeadAsked (option_map asking_parts all) o (asked (items_at o.levels) o.opened o.due)
tuple_head Ts None o = tt
tuple_head Ts (Some r) o = λ x e h. ap (and_then (tuple_asked r.asks (suc o.opened) (less_one o.levels))) h

all_tell : (Ts : List Meaning) (all : Option (AllAsked Ts)) → LeftTell all all
all_tell Ts None = tt
all_tell Ts (Some r) = tt

others_tell : (As : List Meaning) (T : Meaning) (Ts : List Meaning) (all : Option (AllAsked As)) (tells : Option (Asking T)) (left : Option (AllAsked Ts)) → LeftTell all (joined tells left) → LeftTell all left
others_tell As T Ts None tells left h = tt
others_tell As T Ts (Some r) None left h = absurd h
others_tell As T Ts (Some r) (Some a) None h = absurd h
others_tell As T Ts (Some r) (Some a) (Some s) h = tt

tuple_step : (As : List Meaning) (T : Meaning) (Ts : List Meaning) (all : Option (AllAsked As)) (tells : Option (Asking T)) (left : Option (AllAsked Ts)) (o i : State) (w v : WantedItems) (t : Tree) (c : Content) (taken : List ℕ) → LeftTell all (joined tells left)
    → i ≡ inside_items w o i.source → v ≡ items_after w → 0 < items_left w → Fills i.levels (item_due w) t taken → T t ≡ Some c → StepAsked (option_map asking_parts all) (parts_now (joined tells left) o w) (parts_now left o v) taken
tuple_step As T Ts None tells left o i w v t c taken tell state after some filled read = tt
tuple_step As T Ts (Some r) None left o i w v t c taken tell state after some filled read = absurd tell
tuple_step As T Ts (Some r) (Some a) None o i w v t c taken tell state after some filled read = absurd tell
tuple_step As T Ts (Some r) (Some a) (Some s) o i w v t c taken tell state after some filled read =
    subst (λ z. Continues (tuple_asked (counted a.asks ∷ s.asks) (suc o.opened) (less_one o.levels) w) (tuple_asked s.asks (suc o.opened) (less_one o.levels) z) taken) (sym after)
    (part_passed (counted a.asks) s.asks (suc o.opened) (less_one o.levels) w taken some (part_passes T a o i (less_one o.levels) (item_due w) t c taken (inner_opened w o i state) (inner_levels w o i state) filled read))

tuple_first : (As : List Meaning) (T : Meaning) (Ts : List Meaning) (all : Option (AllAsked As)) (tells : Option (Asking T)) (left : Option (AllAsked Ts)) (o i : State) (w : WantedItems) → LeftTell all (joined tells left)
    → i ≡ inside_items w o i.source → 0 < items_left w → FirstAsked (option_map asking_parts all) tells (awaiting (item_due w) i) (parts_now (joined tells left) o w)
tuple_first As T Ts None tells left o i w tell state some = tt
tuple_first As T Ts (Some r) None left o i w tell state some = absurd tell
tuple_first As T Ts (Some r) (Some a) None o i w tell state some = absurd tell
tuple_first As T Ts (Some r) (Some a) (Some s) o i w tell state some =
    λ x e h. part_first (counted a.asks) s.asks (suc o.opened) (less_one o.levels) w x e some (sym (asked_inside a.asks o i (less_one o.levels) (item_due w) x (inner_opened w o i state) (inner_levels w o i state)) ∙ h)

tuple_short : (As : List Meaning) (T : Meaning) (Ts : List Meaning) (all : Option (AllAsked As)) (tells : Option (Asking T)) (left : Option (AllAsked Ts)) (o : State) (w : WantedItems) → LeftTell all (joined tells left) → items_left w ≡ 0
    → NoneAsked (option_map asking_parts all) (parts_now (joined tells left) o w) (complain complaints.TooFewItems)
tuple_short As T Ts None tells left o w tell none = tt
tuple_short As T Ts (Some r) None left o w tell none = absurd tell
tuple_short As T Ts (Some r) (Some a) None o w tell none = absurd tell
tuple_short As T Ts (Some r) (Some a) (Some s) o w tell none = λ x. none_over (counted a.asks) s.asks (suc o.opened) (less_one o.levels) w x none

tuple_long : (As : List Meaning) (all : Option (AllAsked As)) (o : State) (w : WantedItems) → 0 < items_left w → NoneAsked (option_map asking_parts all) (parts_now (all_asked [] tt) o w) (complain complaints.ItemsLeft)
tuple_long As None o w some = tt
tuple_long As (Some r) o w some = λ x. some_over (suc o.opened) (less_one o.levels) w x some

-- ---- a tuple

each_last : (hs : List (Content → Type 0)) (cs : List Content) (h : Content → Type 0) (c : Content) → HoldsEach hs cs → h c → HoldsEach (hs ++ h ∷ []) (cs ++ c ∷ [])
each_last [] [] h c e k = (k, tt)
each_last [] (d ∷ cs) h c e k = absurd e
each_last (g ∷ hs) [] h c e k = absurd e
each_last (g ∷ hs) (d ∷ cs) h c e k = (e.0, each_last hs cs h c e.1 k)

-- what the parts of a tuple are: what each reads, what it asks for, and what it is known of each that it reads no object
pub record TupleOf : Type 0 where
  pub types : List Meaning
  pub asks : PartAskings types
  pub plain : Plain types
  pub needs : List Needs

-- what names the refusals of the whole
abbrev pub whole_asks : (P : TupleOf) → Option (Asking (reads_tuple P.types))
whole_asks P = asking_tuple P.types P.asks

-- how the tuple is refused
abbrev pub RefusesTuple : TupleOf → Error → State → State → Type 0
RefusesTuple P e o z = Refuses (reads_tuple P.types) (whole_asks P) (tuple_needs P.needs P.types P.plain) e o z

-- these parts were read of an array that was opened in the state o, and those of the types Ts are left, which need this
pub record ReadsParts (P : TupleOf) (Ts : List Meaning) (left : PartAskings Ts) (needs : List Needs) (hs : List (Content → Type 0)) (o : State) (u : OpenItems) : Type 0 where
  pub contents : List Content
  pub held : HoldsEach hs contents
  pub tell : LeftTell (all_asked P.types P.asks) (all_asked Ts left)
  pub inside : Inside (reads_tuple P.types) (whole_asks P) o (rest_of_tuple Ts contents) (parts_now (all_asked Ts left) o u.wanted) u
  pub lent : any_lent needs ≡ true → any_lent P.needs ≡ true
  pub memory : any_memory needs ≡ true → any_memory P.needs ≡ true

pub parts_start : (P : TupleOf) {o : State} {u : OpenItems} → OpensItems o u → ReadsParts P P.types P.asks P.needs [] o u
parts_start P {o = o} {u = u} opens =
    let all = all_asked P.types P.asks in
    record {
      contents = [];
      held = tt;
      tell = all_tell P.types all;
      inside = inside_start (reads_tuple P.types) (whole_asks P) (rest_of_tuple P.types []) (parts_now all o u.wanted) o u (reads_parts P.types) opens (tuple_begins P.types all o u.wanted opens.text opens.head);
      lent = λ l. l;
      memory = λ m. m;
    }

module _ {P : TupleOf} {T : Meaning} {Ts : List Meaning} {tells : Option (Asking T)} {left : PartAskings Ts} {some : Needs} {others : List Needs} {hs : List (Content → Type 0)} {o : State} {u : OpenItems} where
  pub parts_next : {A : Type 0} {holds : A → Content → Type 0} {t : OpenItems} {v : A} → ReadsParts P (T ∷ Ts) (tells, left) (some ∷ others) hs o u → IsNextItem T holds u t v → ReadsParts P Ts left others (hs ++ holds v ∷ []) o t
  parts_next {holds = holds} {t = t} {v = v} h next =
      let a = next.answers in
      let all = all_asked P.types P.asks in
      let rest = all_asked Ts left in
      let step = tuple_step P.types T Ts all tells rest o u.state u.wanted t.wanted a.tree a.content a.text h.tell h.inside.state (ap (λ (z : OpenItems). z.wanted) next.after) next.counted a.filled a.read in
      record {
        contents = h.contents ++ a.content ∷ [];
        held = each_last hs h.contents (holds v) a.content h.held a.held;
        tell = others_tell P.types T Ts all tells rest h.tell;
        inside = inside_next T holds (reads_tuple P.types) (whole_asks P) (rest_of_tuple (T ∷ Ts) h.contents) (λ c. rest_of_tuple Ts (h.contents ++ c ∷ [])) (parts_now (joined tells rest) o u.wanted) (parts_now rest o t.wanted) o u t v
            (tuple_next T Ts h.contents) h.inside next step;
        lent = λ l. h.lent (or_right some.lent (any_lent others) l);
        memory = λ m. h.memory (or_right some.memory (any_memory others) m);
      }

  -- a part is refused, or is not there
  pub parts_refused : {e : Error} {z : State} → ReadsParts P (T ∷ Ts) (tells, left) (some ∷ others) hs o u → RefusesRequired T tells some e u z → RefusesTuple P e o z
  parts_refused {e = e} {z = z} h (inl unread) =
      let needs : Needs = tuple_needs P.needs P.types P.plain in
      let all = all_asked P.types P.asks in
      let rest = all_asked Ts left in
      let there : 0 < items_left u.wanted = unread.counted h.inside.took.failed in
      item_refused T tells some (reads_tuple P.types) (whole_asks P) (rest_of_tuple (T ∷ Ts) h.contents) (λ c. rest_of_tuple Ts (h.contents ++ c ∷ [])) (parts_now (joined tells rest) o u.wanted) needs e o z u (tuple_next T Ts h.contents)
      (λ l. h.lent (or_left some.lent (any_lent others) l)) (λ m. or_left (any_memory P.needs) (may_read_rows P.types P.plain) (h.memory (or_left some.memory (any_memory others) m))) (λ takes. or_right needs.memory true refl)
      h.inside (tuple_first P.types T Ts all tells rest o u.state u.wanted h.tell h.inside.state there) unread
  parts_refused {e = e} {z = z} h (inr lacks) =
      let all = all_asked P.types P.asks in
      let rest = all_asked Ts left in
      over_refused (reads_tuple P.types) (whole_asks P) (rest_of_tuple (T ∷ Ts) h.contents) (parts_now (joined tells rest) o u.wanted) (tuple_needs P.needs P.types P.plain) e o z u refl h.inside
      (λ none. tuple_short P.types T Ts all tells rest o u.wanted h.tell none) lacks

pub parts_end : {B : Type 0} {P : TupleOf} (parts_of : B → List (Content → Type 0)) {o z : State} {u : OpenItems} (v : B) → ReadsParts P [] tt [] (parts_of v) o u → ClosesItems u z
    → Answers (reads_tuple P.types) (λ (w : B) c. HoldsTuple (parts_of w) c) o z v
parts_end {P = P} parts_of {o = o} {z = z} {u = u} v h closes =
    inside_end (λ w c. HoldsTuple (parts_of w) c) (reads_tuple P.types) (whole_asks P) (rest_of_tuple [] h.contents) (parts_now (all_asked [] tt) o u.wanted) o z u (list_of (h.contents ++ [])) v h.inside closes refl
    (record { contents = h.contents; list = ap list_of (append-nil h.contents); held = h.held })

-- more items than parts
pub parts_many : {P : TupleOf} {hs : List (Content → Type 0)} {e : Error} {o z : State} {u : OpenItems} → ReadsParts P [] tt [] hs o u → LeavesItems e u z → RefusesTuple P e o z
parts_many {P = P} {e = e} {o = o} {z = z} {u = u} h leaves =
    leaves_refused (reads_tuple P.types) (whole_asks P) (rest_of_tuple [] h.contents) (parts_now (all_asked [] tt) o u.wanted) (tuple_needs P.needs P.types P.plain) e o z u (no_part h.contents) h.inside
    (λ some. tuple_long P.types (all_asked P.types P.asks) o u.wanted some) leaves

-- ---- what is read of no template

-- both are some where they are joined
both_there : (first : Option Content) (left : Option (List Content)) (cs : List Content) → before left first ≡ Some cs → (c : Content) × (first ≡ Some c) × (ds : List Content) × (left ≡ Some ds)
both_there None left cs e = absurd cc
both_there (Some c) None cs e = absurd cc
both_there (Some c) (Some ds) cs e = (c, refl, ds, refl)

-- rows are not read
no_rows : (n : ℕ) (ks : List (List ℕ)) (Ts : List Meaning) (ps : Plain Ts) (ts : List Tree) (taken : List ℕ) (cs : List Content) → may_read_rows Ts ps ≡ false → Each (Fills n (row_due ks)) ts taken → reads_each Ts ts ≡ Some cs → ⊥
no_rows n ks [] ps ts taken cs none filled read = absurd cc
no_rows n ks (T ∷ Ts) ps [] taken cs none filled read = absurd cc
no_rows n ks (T ∷ Ts) (None, ps) (t ∷ ts) taken cs none filled read =
    let j = both_there (T t) (reads_each Ts ts) cs read in
    no_rows n ks Ts ps ts filled.rest j.2 none filled.second j.3
no_rows n ks (T ∷ Ts) (Some unread, ps) (t ∷ ts) taken cs none filled read =
    let j = both_there (T t) (reads_each Ts ts) cs read in
    let row : Some j.0 ≡ None = sym j.1 ∙ subst (λ u. T u ≡ None) (sym filled.first.stands) (unread _) in
    absurd cc

some_list : (read : Option (List Content)) (c : Content) → option_map list_of read ≡ Some c → (cs : List Content) × (read ≡ Some cs)
some_list None c e = absurd cc
some_list (Some cs) c e = (cs, refl)

-- what is read begins with the head of an array
array_first : (Ts : List Meaning) (ps : Plain Ts) (s : State) (taken : List ℕ) → may_read_rows Ts ps ≡ false → FillsReadably (reads_tuple Ts) s taken → (first : List ℕ) × (second : List ℕ) × (taken ≡ first ++ second) × IsArrayHead s first
array_first Ts ps s taken none f =
    let p = tuple_only Ts f.tree f.content f.read in
    let filled : Fills s.levels s.due (array p.0) taken = subst (λ t. Fills s.levels s.due t taken) p.1 f.filled in
    let b = items_begin s.levels s.due p.0 taken filled in
    let read = some_list (reads_each Ts (items p.0)) f.content (subst (λ t. reads_tuple Ts t ≡ Some f.content) p.1 f.read) in
    (b.0, b.1, b.2, at p.0 b.0 b.1 filled read.0 read.1 b.2 b.3.0 b.3.1)
  where
    at : (us : Items) (first second : List ℕ) → Fills s.levels s.due (array us) taken → (cs : List Content) → reads_each Ts (items us) ≡ Some cs → taken ≡ first ++ second → (w : WantedItems) → BeginsItems s.levels s.due w first → IsArrayHead s first
    at us first second filled cs read whole (nodes k) head = (k, head)
    at us first second filled cs read whole (rows_over ks k) head =
        let q = items_only s.levels s.due (rows_over ks k) us first taken [] second head filled (append-nil taken ∙ whole) in
        absurd (no_rows _ ks Ts ps (items us) q.0 cs none q.2.1 read)

-- ---- what is refused

-- what is no array is refused
pub tuple_refused : (P : TupleOf) {e : Error} {o z : State} → RefusesItems e o z → RefusesTuple P e o z
tuple_refused P {e = e} {o = o} {z = z} u = by (may_read_rows P.types P.plain) refl
  where
    head : HeadAsked (whole_asks P) o (asked (items_at o.levels) o.opened o.due)
    head = tuple_head P.types (all_asked P.types P.asks) o

    by : (rows : Bool) → may_read_rows P.types P.plain ≡ rows → RefusesTuple P e o z
    by true same = array_refused (reads_tuple P.types) (whole_asks P) (rest_of_tuple P.types []) (tuple_needs P.needs P.types P.plain) e o z (reads_parts P.types) head (or_right (any_memory P.needs) (may_read_rows P.types P.plain) same) u
    by false same =
        let needs : Needs = tuple_needs P.needs P.types P.plain in
        opening_refused (reads_tuple P.types) (whole_asks P) only_keys needs (IsArrayHead o) e o z (λ taken f. array_first P.types P.plain o taken same f) head (λ lent. absurd cc) (λ memory. absurd cc)
        (λ takes. or_right needs.memory true refl) u.array
