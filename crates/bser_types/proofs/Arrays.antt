-- An array or a template that is read item by item.
use Rattle.std.proofs.Common.{◌≡◌, ℕ, zero, suc, ◌-◌, ◌<◌, true, ◌||◌, List, [], ◌∷◌, ◌++◌, length, append_assoc, Option, Some, None, refl, sym, ap, subst, ◌∙◌, arith}
use Rattle.std.proofs.lemmas.List.{append-nil}
use Rattle.bser_format.specs.Tree.{Tree, array, Items, no_items, item, items}
use Rattle.bser_format.specs.Grammar.{Format}
use Rattle.bser_format.specs.Content.{Content, Meaning}
use Rattle.bser_format.specs.Expected.{Fills, FillsItems, WantedItems, nodes, rows_over}
use Rattle.bser_format.specs.declared.errors.Error.{Error}
use Rattle.bser_format.specs.declared.errors.Complaint.TheVariants as complaints
use Rattle.bser_source.specs.Device.{one_more}
use Rattle.bser_format.specs.Named.{Reader, complain}
use Rattle.bser_format.specs.DueReaders.{asked, items_at, less_one}
use Rattle.bser_format.specs.Clauses.{left_over}
use Rattle.bser_source.specs.Window.{Window, Took}
use Rattle.bser_source.proofs.Windows.{took_then, left_took}
use Rattle.bser_deserializer.specs.State.{State, past, refused, awaiting}
use Rattle.bser_deserializer.specs.Reading.{Answers, Asking, NamesAsked, NamesBy, NamesDue, Refuses, RefusesFront, FillsReadably, IsRefusal, owned, Needs}
use Rattle.bser_deserializer.specs.Required.{LacksItem}
use Rattle.bser_deserializer.specs.Parts.{items_left, item_due, items_after}
use Rattle.bser_deserializer.specs.Access.{OpenItems, OpensItems, IsItemsHead, RefusesItems, inside_items, IsNextItem, RefusesItem, ClosesItems, KeysOutside, LeavesItems, after_closing}
use Rattle.bser_deserializer.proofs.Refusals.{first_part, sequel, unfit}
use Rattle.bser_types.proofs.Taken.{wider_needs, wider_type}
use Rattle.bser_types.proofs.Naming.{Asked, StepAsked, HeadAsked, FirstAsked, NoneAsked, asked_then, names_by_wider, head_named, part_named, none_named}
use Rattle.bser_types.proofs.Within.{Within, within_then, DueAs, due_as, one_due}
use Rattle.bser_types.proofs.Items.{items_whole, items_only, items_begin}

-- ---- the items that are left

-- the items still wanted, of which k makes c
pub record ItemsLeft (k : List Tree → Option Content) (n : ℕ) (w : WantedItems) (c : Content) (text : List ℕ) : Type 0 where
  pub parts : Items
  pub filled : FillsItems n w parts text
  pub read : k (items parts) ≡ Some c

-- arrays alone are read, by k of their items
pub record ReadsArrays (reads : Meaning) (k : List Tree → Option Content) : Type 0 where
  pub same : (us : Items) → reads (array us) ≡ k (items us)
  pub only : (t : Tree) (c : Content) → reads t ≡ Some c → (us : Items) × (t ≡ array us)

-- the next item is read by T, and k goes on as `after`
pub record ReadsNext (T : Meaning) (k : List Tree → Option Content) (after : Content → List Tree → Option Content) : Type 0 where
  pub next : (t : Tree) (c : Content) (ts : List Tree) → T t ≡ Some c → k (t ∷ ts) ≡ after c ts
  pub some : (t : Tree) (ts : List Tree) (c : Content) → k (t ∷ ts) ≡ Some c → (d : Content) × (T t ≡ Some d)

-- an item, and then the others
pub record FirstItem (n : ℕ) (w : WantedItems) (us : Items) (text : List ℕ) : Type 0 where
  pub first : Tree
  pub others : Items
  pub parts : us ≡ item first others
  pub front : List ℕ
  pub rest : List ℕ
  pub whole : text ≡ front ++ rest
  pub filled : Fills n (item_due w) first front
  pub left : FillsItems n (items_after w) others rest

fills_first : (n : ℕ) (w : WantedItems) (us : Items) (text : List ℕ) → 0 < items_left w → FillsItems n w us text → FirstItem n w us text
fills_first n (nodes k) no_items text some h = absurd (omega (arith, some, h.0))
fills_first n (rows_over ks k) no_items text some h = absurd (omega (arith, some, h.0))
fills_first n (nodes k) (item t us) text some h = record {
  first = t;
  others = us;
  parts = refl;
  front = h.1.front;
  rest = h.1.rest;
  whole = h.1.whole;
  filled = h.1.first;
  left = (omega (arith, h.0), h.1.second);
}
fills_first n (rows_over ks k) (item t us) text some h = record {
  first = t;
  others = us;
  parts = refl;
  front = h.1.front;
  rest = h.1.rest;
  whole = h.1.whole;
  filled = h.1.first;
  left = (omega (arith, h.0), h.1.second);
}

fills_more : (n : ℕ) (w : WantedItems) (t : Tree) (us : Items) (front rest : List ℕ) → 0 < items_left w → Fills n (item_due w) t front → FillsItems n (items_after w) us rest → FillsItems n w (item t us) (front ++ rest)
fills_more n (nodes k) t us front rest some f h = (omega (arith, h.0, some), record { front = front; rest = rest; whole = refl; first = f; second = h.1 })
fills_more n (rows_over ks k) t us front rest some f h = (omega (arith, h.0, some), record { front = front; rest = rest; whole = refl; first = f; second = h.1 })

fills_none : (n : ℕ) (w : WantedItems) → items_left w ≡ 0 → FillsItems n w no_items []
fills_none n (nodes k) e = (sym e, refl)
fills_none n (rows_over ks k) e = (sym e, refl)

some_left : (n : ℕ) (w : WantedItems) (us : Items) (text : List ℕ) → FillsItems n w us text → length (items us) ≡ items_left w
some_left n (nodes k) us text h = h.0
some_left n (rows_over ks k) us text h = h.0

no_length : {X : Type 0} (xs : List X) → length xs ≡ 0 → xs ≡ []
no_length [] e = refl
no_length (x ∷ xs) e = absurd (omega (arith, e))

-- one item was taken
item_step : (T : Meaning) (k : List Tree → Option Content) (after : Content → List Tree → Option Content) (n : ℕ) (w : WantedItems) (t : Tree) (d : Content) (text : List ℕ) → ReadsNext T k after → 0 < items_left w
    → Fills n (item_due w) t text → T t ≡ Some d → Within (ItemsLeft k n w) (ItemsLeft (after d) n (items_after w)) text
item_step T k after n w t d text by some filled read = record {
  whole = λ c more v. record { parts = item t v.parts; filled = fills_more n w t v.parts text more some filled v.filled; read = by.next t d (items v.parts) read ∙ v.read };
  only = λ c all rest ys v e.
      let f = fills_first n w v.parts all some v.filled in
      let same : f.front ++ (f.rest ++ rest) ≡ text ++ ys = sym (append_assoc f.front f.rest rest) ∙ ap (λ l. l ++ rest) (sym f.whole) ∙ e in
      let one = one_due n (item_due w) f.first t f.front text (f.rest ++ rest) ys f.filled filled same in
      let read' : k (t ∷ items f.others) ≡ Some c = ap (λ u. k (u ∷ items f.others)) (sym one.1) ∙ ap (λ us. k (items us)) (sym f.parts) ∙ v.read in
      (f.rest, f.whole ∙ ap (λ l. l ++ f.rest) one.0, record { parts = f.others; filled = f.left; read = sym (by.next t d (items f.others) read) ∙ read' });
}

-- ---- an open array

-- how an array that was opened in the state o stands: k makes of the items that are left what the whole reads as, and `now` is left to be asked for
pub record Inside (reads : Meaning) (asks : Option (Asking reads)) (o : State) (k : List Tree → Option Content) (now : Reader Unit) (u : OpenItems) : Type 0 where
  pub taken : List ℕ
  pub within : Within (DueAs reads o) (ItemsLeft k (o.levels - 1) u.wanted) taken
  pub took : Took o.source u.state.source taken
  pub asked : Asked asks o now taken
  pub state : u.state ≡ inside_items u.wanted o u.state.source
  pub levels : u.levels ≡ o.levels
  pub opened : u.opened ≡ o.opened

pub inside_start : (reads : Meaning) (asks : Option (Asking reads)) (k : List Tree → Option Content) (now : Reader Unit) (o : State) (u : OpenItems) → ReadsArrays reads k → (opens : OpensItems o u) → Asked asks o now opens.text
    → Inside reads asks o k now u
inside_start reads asks k now o u by opens asked = record {
  taken = opens.text;
  within = record {
    whole = λ c more v. record { tree = array v.parts; filled = items_whole o.levels o.due u.wanted v.parts opens.text more opens.head v.filled; read = by.same v.parts ∙ v.read };
    only = λ c text rest ys d e.
        let p = by.only d.tree c d.read in
        let q = items_only o.levels o.due u.wanted p.0 opens.text text rest ys opens.head (subst (λ t. Fills o.levels o.due t text) p.1 d.filled) e in
        (q.0, q.1, record { parts = p.0; filled = q.2; read = sym (by.same p.0) ∙ ap reads (sym p.1) ∙ d.read });
  };
  took = opens.took;
  asked = asked;
  state = opens.state;
  levels = opens.levels;
  opened = opens.opened;
}

levels_inside : (w : WantedItems) (o : State) (r : Window) → (inside_items w o r).levels ≡ o.levels - 1
levels_inside (nodes k) o r = refl
levels_inside (rows_over ks k) o r = refl

opened_inside : (w : WantedItems) (o : State) (r : Window) → (inside_items w o r).opened ≡ one_more o.opened
opened_inside (nodes k) o r = refl
opened_inside (rows_over ks k) o r = refl

pub one_less : (n : ℕ) → n - 1 ≡ less_one n
one_less zero = omega arith
one_less (suc n) = omega arith

-- the levels inside, and how many containers are open there
pub inner_levels : (w : WantedItems) (o i : State) → i ≡ inside_items w o i.source → i.levels ≡ less_one o.levels
inner_levels w o i state = ap (λ (s : State). s.levels) state ∙ levels_inside w o i.source ∙ one_less o.levels

pub inner_opened : (w : WantedItems) (o i : State) → i ≡ inside_items w o i.source → i.opened ≡ one_more o.opened
inner_opened w o i state = ap (λ (s : State). s.opened) state ∙ opened_inside w o i.source

past_item : (w : WantedItems) (o : State) (r x : Window) → past (awaiting (item_due w) (inside_items w o r)) x ≡ inside_items (items_after w) o x
past_item (nodes k) o r x = refl
past_item (rows_over ks k) o r x = refl

pub inside_next : {A : Type 0} (T : Meaning) (holds : A → Content → Type 0) (reads : Meaning) (asks : Option (Asking reads)) (k : List Tree → Option Content) (after : Content → List Tree → Option Content) (now later : Reader Unit) (o : State) (u t : OpenItems) (v : A)
    → ReadsNext T k after → Inside reads asks o k now u → (next : IsNextItem T holds u t v) → StepAsked asks now later next.answers.text → Inside reads asks o (after next.answers.content) later t
inside_next T holds reads asks k after now later o u t v by h next step_asked =
    let a = next.answers in
    let level : u.state.levels ≡ o.levels - 1 = ap (λ (z : State). z.levels) h.state ∙ levels_inside u.wanted o u.state.source in
    let filled : Fills (o.levels - 1) (item_due u.wanted) a.tree a.text = subst (λ n. Fills n (item_due u.wanted) a.tree a.text) level a.filled in
    let wanted : t.wanted ≡ items_after u.wanted = ap (λ (z : OpenItems). z.wanted) next.after in
    let step = item_step T k after (o.levels - 1) u.wanted a.tree a.content a.text by next.counted filled a.read in
    record {
      taken = h.taken ++ a.text;
      within = subst (λ w. Within (DueAs reads o) (ItemsLeft (after a.content) (o.levels - 1) w) (h.taken ++ a.text)) (sym wanted)
          (within_then (DueAs reads o) (ItemsLeft k (o.levels - 1) u.wanted) (ItemsLeft (after a.content) (o.levels - 1) (items_after u.wanted)) h.taken a.text h.within step);
      took = took_then o.source u.state.source t.state.source h.taken a.text h.took a.took;
      asked = asked_then reads asks o now later h.taken a.text h.asked step_asked;
      state = a.state ∙ ap (λ z. past (awaiting (item_due u.wanted) z) t.state.source) h.state ∙ past_item u.wanted o u.state.source t.state.source ∙ ap (λ w. inside_items w o t.state.source) (sym wanted);
      levels = ap (λ (z : OpenItems). z.levels) next.after ∙ h.levels;
      opened = ap (λ (z : OpenItems). z.opened) next.after ∙ h.opened;
    }

-- ---- the end

keys_outside : (w : WantedItems) (o z : State) (r : Window) → KeysOutside w (inside_items w o r) z → (z.keys ≡ o.keys) × (z.outer ≡ o.outer)
keys_outside (nodes k) o z r h = h
keys_outside (rows_over ks k) o z r h = h o.keys o.outer refl

abbrev restored : State → ℕ → ℕ → List (List ℕ) → List (List (List ℕ)) → State
restored s levels opened keys outer = record (after_closing levels opened s) { keys = keys; outer = outer }

restored_past : (w : WantedItems) (o : State) (r : Window) → restored (inside_items w o r) o.levels o.opened o.keys o.outer ≡ past o r
restored_past (nodes k) o r = refl
restored_past (rows_over ks k) o r = refl

-- all items are read, and the array is closed
pub inside_end : {A : Type 0} (holds : A → Content → Type 0) (reads : Meaning) (asks : Option (Asking reads)) (k : List Tree → Option Content) (now : Reader Unit) (o z : State) (u : OpenItems) (c : Content) (v : A)
    → Inside reads asks o k now u → ClosesItems u z → k [] ≡ Some c → holds v c → Answers reads holds o z v
inside_end holds reads asks k now o z u c v h closes read held =
    let due = h.within.whole c [] (record { parts = no_items; filled = fills_none (o.levels - 1) u.wanted closes.counted; read = read }) in
    let source : z.source ≡ u.state.source = ap (λ y. y.source) closes.state in
    let keys = keys_outside u.wanted o z u.state.source (subst (λ s. KeysOutside u.wanted s z) h.state closes.keys) in
    let state : z ≡ past o u.state.source =
    closes.state
    ∙ ap (λ s. restored s u.levels u.opened z.keys z.outer) h.state
    ∙ ap (λ n. restored (inside_items u.wanted o u.state.source) n u.opened z.keys z.outer) h.levels
    ∙ ap (λ n. restored (inside_items u.wanted o u.state.source) o.levels n z.keys z.outer) h.opened
    ∙ ap (λ ks. restored (inside_items u.wanted o u.state.source) o.levels o.opened ks z.outer) keys.0
    ∙ ap (λ os. restored (inside_items u.wanted o u.state.source) o.levels o.opened o.keys os) keys.1
    ∙ restored_past u.wanted o u.state.source in
    record {
      tree = due.tree;
      content = c;
      text = h.taken;
      filled = subst (Fills o.levels o.due due.tree) (append-nil h.taken) due.filled;
      read = due.read;
      held = held;
      took = subst (λ r. Took o.source r h.taken) (sym source) h.took;
      state = state ∙ ap (past o) (sym source);
    }

-- ---- refusals

-- what begins with no such head is refused
pub opening_refused : (reads : Meaning) (asks : Option (Asking reads)) (some needs : Needs) (W : Format) (e : Error) (o z : State) → ((text : List ℕ) → FillsReadably reads o text → (first : List ℕ) × (second : List ℕ) × (text ≡ first ++ second) × W first)
    → HeadAsked asks o (asked (items_at o.levels) o.opened o.due) → (some.lent ≡ true → needs.lent ≡ true) → (some.memory ≡ true → needs.memory ≡ true) → (some.memory || some.keys ≡ true → needs.memory || needs.keys ≡ true)
    → RefusesFront some W (NamesDue some (items_at o.levels) e o) e o.source z.source → Refuses reads asks needs e o z
opening_refused reads asks some needs W e o z begins head lent memory takes u =
    let r = asked (items_at o.levels) o.opened o.due in
    let M : Type 0 = NamesAsked needs asks e o in
    first_part needs W (FillsReadably reads o) M M e o.source z.source begins (λ n. n)
    (wider_needs some needs W (NamesBy some r e o.source) M e o.source z.source lent memory takes (λ n. head_named reads asks needs e o r head (names_by_wider some needs r e o.source lent takes n)) u)

-- what is no array is refused
pub array_refused : (reads : Meaning) (asks : Option (Asking reads)) (k : List Tree → Option Content) (needs : Needs) (e : Error) (o z : State) → ReadsArrays reads k → HeadAsked asks o (asked (items_at o.levels) o.opened o.due) → needs.memory ≡ true
    → RefusesItems e o z → Refuses reads asks needs e o z
array_refused reads asks k needs e o z by head memory u =
    opening_refused reads asks owned needs (IsItemsHead o) e o z (λ text f.
    let p = by.only f.tree f.content f.read in
    items_begin o.levels o.due p.0 text (subst (λ t. Fills o.levels o.due t text) p.1 f.filled))
    head (λ lent. absurd cc) (λ m. memory) (λ t. ap (λ m. m || needs.keys) memory) u.refuses

-- after what was taken, a whole goes on by the items that are left
goes_on : (reads : Meaning) (asks : Option (Asking reads)) (k : List Tree → Option Content) (now : Reader Unit) (o : State) (u : OpenItems) → (h : Inside reads asks o k now u) → (text rest ys : List ℕ) → FillsReadably reads o text → text ++ rest ≡ h.taken ++ ys
    → (more : List ℕ) × (text ≡ h.taken ++ more) × ((c : Content) × ItemsLeft k (o.levels - 1) u.wanted c more)
goes_on reads asks k now o u h text rest ys f e = let p = h.within.only f.content text rest ys (due_as reads o text f) e in (p.0, p.1, (f.content, p.2))

-- a refusal of an item
pub item_refused : (T : Meaning) (tells : Option (Asking T)) (some : Needs) (reads : Meaning) (asks : Option (Asking reads)) (k : List Tree → Option Content) (after : Content → List Tree → Option Content) (now : Reader Unit) (needs : Needs) (e : Error) (o z : State) (u : OpenItems)
    → ReadsNext T k after → (some.lent ≡ true → needs.lent ≡ true) → (some.memory ≡ true → needs.memory ≡ true) → (some.memory || some.keys ≡ true → needs.memory || needs.keys ≡ true)
    → Inside reads asks o k now u → FirstAsked asks tells (awaiting (item_due u.wanted) u.state) now → RefusesItem T tells some e u z → Refuses reads asks needs e o z
item_refused T tells some reads asks k after now needs e o z u by lent memory takes h first refuses =
    let level : o.levels - 1 ≡ u.state.levels = sym (ap (λ (s : State). s.levels) h.state ∙ levels_inside u.wanted o u.state.source) in
    let left = refuses.counted h.took.failed in
    let p : State = awaiting (item_due u.wanted) u.state in
    let V : Format = FillsReadably T p in
    let L : Format = λ x. (c : Content) × ItemsLeft k (o.levels - 1) u.wanted c x in
    let N : Type 0 = NamesAsked needs tells e p in
    let M : Type 0 = NamesAsked needs asks e o in
    sequel needs L (FillsReadably reads o) N M e o.source u.state.source z.source h.taken h.took (goes_on reads asks k now o u h) (λ n. part_named reads T asks tells needs e o p now h.taken h.asked h.took first n)
    (first_part needs V L N N e u.state.source z.source (λ text v.
    let f = fills_first (o.levels - 1) u.wanted v.1.parts text left v.1.filled in
    let read : k (f.first ∷ items f.others) ≡ Some v.0 = ap (λ us. k (items us)) (sym f.parts) ∙ v.1.read in
    let d = by.some f.first (items f.others) v.0 read in
    (f.front, f.rest, f.whole, record { tree = f.first; content = d.0; filled = subst (λ n. Fills n (item_due u.wanted) f.first f.front) level f.filled; read = d.1 }))
    (λ n. n) (wider_type T tells some needs e p z lent memory takes refuses.refuses))

-- a refusal where what is left cannot be as is wanted
never_left : (reads : Meaning) (asks : Option (Asking reads)) (k : List Tree → Option Content) (now : Reader Unit) (needs : Needs) (e : Error) (o z : State) (u : OpenItems) → Inside reads asks o k now u
    → ((c : Content) (text : List ℕ) → ItemsLeft k (o.levels - 1) u.wanted c text → ⊥) → NoneAsked asks now e → IsRefusal e → z ≡ refused u.state → Refuses reads asks needs e o z
never_left reads asks k now needs e o z u h never none kind state =
    unfit needs (FillsReadably reads o) (NamesAsked needs asks e o) e o.source u.state.source z.source h.taken kind h.took (ap (λ (s : State). s.source) state)
    (none_named reads asks needs e o u.state.source now h.taken h.asked h.took none)
    (λ text rest f known.
    let r = left_took o.source u.state.source h.taken (text ++ rest) h.took known in
    let p = goes_on reads asks k now o u h text rest r.0 f r.2 in
    never p.2.0 p.0 p.2.1)

-- more items than are read
pub leaves_refused : (reads : Meaning) (asks : Option (Asking reads)) (k : List Tree → Option Content) (now : Reader Unit) (needs : Needs) (e : Error) (o z : State) (u : OpenItems) → ((ts : List Tree) (c : Content) → k ts ≡ Some c → ts ≡ [])
    → Inside reads asks o k now u → (0 < items_left u.wanted → NoneAsked asks now (complain complaints.ItemsLeft)) → LeavesItems e u z → Refuses reads asks needs e o z
leaves_refused reads asks k now needs e o z u none h named leaves =
    let name : e ≡ complain complaints.ItemsLeft = leaves.name ∙ ap left_over h.took.failed in
    let some = leaves.counted h.took.failed in
    never_left reads asks k now needs e o z u h (λ c text v.
    let size = ap length (none (items v.parts) c v.read) in
    absurd (omega (arith, size, some_left (o.levels - 1) u.wanted v.parts text v.filled, some)))
    (subst (NoneAsked asks now) (sym name) (named some)) (subst IsRefusal (sym name) tt) leaves.state

-- fewer items than are read
pub over_refused : (reads : Meaning) (asks : Option (Asking reads)) (k : List Tree → Option Content) (now : Reader Unit) (needs : Needs) (e : Error) (o z : State) (u : OpenItems) → k [] ≡ None → Inside reads asks o k now u
    → (items_left u.wanted ≡ 0 → NoneAsked asks now (complain complaints.TooFewItems)) → LacksItem e u z → Refuses reads asks needs e o z
over_refused reads asks k now needs e o z u none h named lacks =
    never_left reads asks k now needs e o z u h (λ c text v.
    let empty = no_length (items v.parts) (some_left (o.levels - 1) u.wanted v.parts text v.filled ∙ lacks.counted) in
    let read : None ≡ Some c = sym none ∙ ap k (sym empty) ∙ v.read in
    absurd cc)
    (subst (NoneAsked asks now) (sym lacks.name) (named lacks.counted)) (subst IsRefusal (sym lacks.name) tt) lacks.state
