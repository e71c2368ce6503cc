-- An object or a row that is read entry by entry.
use Rattle.std.proofs.Common.{◌≡◌, ℕ, ◌<◌, true, false, ◌||◌, List, [], ◌∷◌, ◌++◌, map, append_assoc, Option, Some, refl, sym, ap, subst, ◌∙◌, arith}
use Rattle.std.proofs.lemmas.List.{append-nil}
use Rattle.bser_format.specs.Tree.{Tree, object, Entries, no_entries, entry, entries}
use Rattle.bser_format.specs.Grammar.{Format, ◌then◌}
use Rattle.bser_format.specs.Expand.{key_tree}
use Rattle.bser_format.specs.Content.{Content, Meaning}
use Rattle.bser_format.specs.Expected.{Due, Fills, FillsPairs, WantedPairs, entries_of_object, fields_of_row}
use Rattle.bser_format.specs.declared.errors.Error.{Error}
use Rattle.bser_format.specs.declared.errors.Error.TheVariants.{OutOfMemory}
use Rattle.bser_source.specs.Device.{one_more}
use Rattle.bser_format.specs.Named.{Reader}
use Rattle.bser_format.specs.DueReaders.{asked, pairs_at}
use Rattle.bser_format.specs.Asks.{inside}
use Rattle.bser_source.specs.Window.{Window, Took, closed}
use Rattle.bser_source.proofs.Windows.{took_then}
use Rattle.bser_deserializer.specs.State.{State, past, awaiting}
use Rattle.bser_deserializer.specs.Reading.{Answers, Asking, NamesAsked, NamesBy, Refuses, RefusesFront, FillsReadably, bare, Needs}
use Rattle.bser_deserializer.specs.Parts.{pairs_left, pair_key, pair_value, pairs_after}
use Rattle.bser_deserializer.specs.Access.{OpenPairs, OpensPairs, IsPairsHead, RefusesPairs, inside_pairs, IsKey, NoEntry, RefusesKey, IsValue, RefusesValue, ClosesPairs, after_closing}
use Rattle.bser_deserializer.proofs.Refusals.{first_part, sequel, with_needs, names_bare}
use Rattle.bser_types.proofs.Taken.{wider_type, no_room}
use Rattle.bser_types.proofs.Naming.{Asked, StepAsked, HeadAsked, FirstAsked, asked_then, head_named, part_named}
use Rattle.bser_types.proofs.Within.{Within, within_then, DueAs, due_as, one_due}
use Rattle.bser_types.proofs.Arrays.{one_less}
use Rattle.bser_types.proofs.ObjectFills.{levels_inside, pairs_whole, pairs_only, pairs_begin, same_key}

-- what a list of entries comes to
abbrev pub Outlook : Type 0
Outlook = List (List ℕ × Tree) → Option Content

-- ---- the entries that are left

-- the entries still wanted, of which k makes c
pub record PairsLeft (k : Outlook) (n : ℕ) (w : WantedPairs) (c : Content) (text : List ℕ) : Type 0 where
  pub parts : Entries
  pub filled : FillsPairs n w parts text
  pub read : k (entries parts) ≡ Some c

-- the value of this key, and then the entries still wanted, of which k makes c
pub record ValueLeft (k : Outlook) (name : List ℕ) (n : ℕ) (w : WantedPairs) (c : Content) (text : List ℕ) : Type 0 where
  pub value : Tree
  pub parts : Entries
  pub filled : (Fills n (pair_value w) value then FillsPairs n w parts) text
  pub read : k ((name, value) ∷ entries parts) ≡ Some c

-- objects alone are read, by k of their entries
pub record ReadsObjects (reads : Meaning) (k : Outlook) : Type 0 where
  pub same : (us : Entries) → reads (object us) ≡ k (entries us)
  pub only : (t : Tree) (c : Content) → reads t ≡ Some c → (us : Entries) × (t ≡ object us)

-- a key, and then the rest
pub record FirstKey (n : ℕ) (w : WantedPairs) (us : Entries) (text : List ℕ) : Type 0 where
  pub name : List ℕ
  pub value : Tree
  pub others : Entries
  pub parts : us ≡ entry name value others
  pub front : List ℕ
  pub rest : List ℕ
  pub whole : text ≡ front ++ rest
  pub filled : Fills n (pair_key w) (key_tree name) front
  pub left : (Fills n (pair_value (pairs_after w)) value then FillsPairs n (pairs_after w) others) rest

key_of_entry : (n k : ℕ) (us : Entries) (text : List ℕ) → 0 < k → FillsPairs n (entries_of_object k) us text → FirstKey n (entries_of_object k) us text
key_of_entry n k no_entries text some h = absurd (omega (arith, some, h.0))
key_of_entry n k (entry name t us) text some (count, h) = record {
  name = name;
  value = t;
  others = us;
  parts = refl;
  front = h.first.front;
  rest = h.first.rest ++ h.rest;
  whole = h.whole ∙ ap (λ c. c ++ h.rest) h.first.whole ∙ append_assoc h.first.front h.first.rest h.rest;
  filled = record { key = name; stands = refl; spelled = h.first.first };
  left = record { front = h.first.rest; rest = h.rest; whole = refl; first = h.first.second; second = (omega (arith, count), h.second) };
}

key_of_field : (n : ℕ) (k : List ℕ) (ks : List (List ℕ)) (us : Entries) (text : List ℕ) → FillsPairs n (fields_of_row (k ∷ ks)) us text → FirstKey n (fields_of_row (k ∷ ks)) us text
key_of_field n k ks no_entries text (names, h) = absurd cc
key_of_field n k ks (entry name t us) text (names, h) =
    let same : name ≡ k = cc in
    let others : map (λ e. e.0) (entries us) ≡ ks = cc in
    record {
      name = name;
      value = t;
      others = us;
      parts = refl;
      front = [];
      rest = text;
      whole = refl;
      filled = (ap key_tree same, refl);
      left = record { front = h.front; rest = h.rest; whole = h.whole; first = h.first; second = (others, h.second) };
    }

pub first_key : (n : ℕ) (w : WantedPairs) (us : Entries) (text : List ℕ) → 0 < pairs_left w → FillsPairs n w us text → FirstKey n w us text
first_key n (entries_of_object k) us text some h = key_of_entry n k us text some h
first_key n (fields_of_row []) us text some h = absurd (omega (arith, some))
first_key n (fields_of_row (k ∷ ks)) us text some h = key_of_field n k ks us text h

-- what was taken of a key is the key of some name
pub record NamedBy (n : ℕ) (w : WantedPairs) (u : Tree) (text : List ℕ) : Type 0 where
  pub name : List ℕ
  pub stands : u ≡ key_tree name
  pub more : (value : Tree) (us : Entries) (rest : List ℕ) → (Fills n (pair_value (pairs_after w)) value then FillsPairs n (pairs_after w) us) rest → FillsPairs n w (entry name value us) (text ++ rest)

named_by : (n : ℕ) (w : WantedPairs) (u : Tree) (text : List ℕ) → 0 < pairs_left w → Fills n (pair_key w) u text → NamedBy n w u text
named_by n (entries_of_object k) u text some f = record {
  name = f.key;
  stands = f.stands;
  more = λ value us rest h. (
    omega (arith, h.second.0, some),
    record {
      front = text ++ h.front;
      rest = h.rest;
      whole = ap (λ c. text ++ c) h.whole ∙ sym (append_assoc text h.front h.rest);
      first = record { front = text; rest = h.front; whole = refl; first = f.spelled; second = h.first };
      second = h.second.1;
    },
  );
}
named_by n (fields_of_row []) u text some f = absurd f
named_by n (fields_of_row (k ∷ ks)) u text some f = record {
  name = k;
  stands = f.0;
  more = λ value us rest h. (
    ap (λ l. k ∷ l) h.second.0,
    record { front = h.front; rest = h.rest; whole = ap (λ c. c ++ rest) f.1 ∙ h.whole; first = h.first; second = h.second.1 },
  );
}

fills_none : (n : ℕ) (w : WantedPairs) → pairs_left w ≡ 0 → FillsPairs n w no_entries []
fills_none n (entries_of_object k) e = (sym e, refl)
fills_none n (fields_of_row []) e = (refl, refl)
fills_none n (fields_of_row (k ∷ ks)) e = absurd (omega (arith, e))

-- one key was taken
key_step : (k : Outlook) (n : ℕ) (w : WantedPairs) (u : Tree) (text : List ℕ) (some : 0 < pairs_left w) (f : Fills n (pair_key w) u text) → Within (PairsLeft k n w) (ValueLeft k (named_by n w u text some f).name n (pairs_after w)) text
key_step k n w u text some f =
    let named = named_by n w u text some f in
    record {
      whole = λ c more v. record { parts = entry named.name v.value v.parts; filled = named.more v.value v.parts more v.filled; read = v.read };
      only = λ c all rest ys v e.
          let p = first_key n w v.parts all some v.filled in
          let joined : p.front ++ (p.rest ++ rest) ≡ text ++ ys = sym (append_assoc p.front p.rest rest) ∙ ap (λ l. l ++ rest) (sym p.whole) ∙ e in
          let one = one_due n (pair_key w) (key_tree p.name) u p.front text (p.rest ++ rest) ys p.filled f joined in
          let name : p.name ≡ named.name = same_key p.name named.name (one.1 ∙ named.stands) in (
            p.rest,
            p.whole ∙ ap (λ l. l ++ p.rest) one.0,
            record {
              value = p.value;
              parts = p.others;
              filled = p.left;
              read = ap (λ l. k ((l, p.value) ∷ entries p.others)) (sym name) ∙ ap (λ us. k (entries us)) (sym p.parts) ∙ v.read;
            },
          );
    }

-- the value of a key was taken
value_step : (k after : Outlook) (name : List ℕ) (n : ℕ) (w : WantedPairs) (u : Tree) (text : List ℕ) → ((es : List (List ℕ × Tree)) → k ((name, u) ∷ es) ≡ after es) → Fills n (pair_value w) u text
    → Within (ValueLeft k name n w) (PairsLeft after n w) text
value_step k after name n w u text next f = record {
  whole = λ c more v. record { value = u; parts = v.parts; filled = record { front = text; rest = more; whole = refl; first = f; second = v.filled }; read = next (entries v.parts) ∙ v.read };
  only = λ c all rest ys v e.
      let h = v.filled in
      let joined : h.front ++ (h.rest ++ rest) ≡ text ++ ys = sym (append_assoc h.front h.rest rest) ∙ ap (λ l. l ++ rest) (sym h.whole) ∙ e in
      let one = one_due n (pair_value w) v.value u h.front text (h.rest ++ rest) ys h.first f joined in (
        h.rest,
        h.whole ∙ ap (λ l. l ++ h.rest) one.0,
        record {
          parts = v.parts;
          filled = h.second;
          read = sym (next (entries v.parts)) ∙ ap (λ t. k ((name, t) ∷ entries v.parts)) (sym one.1) ∙ v.read;
        },
      );
}

-- ---- an open object

-- how an object that was opened in the state o stands, where V is what is left of it, and `now` is left to be asked for
pub record Inside (reads : Meaning) (asks : Option (Asking reads)) (o : State) (V : Content → Format) (now : Reader Unit) (u : OpenPairs) : Type 0 where
  pub taken : List ℕ
  pub within : Within (DueAs reads o) V taken
  pub took : Took o.source u.state.source taken
  pub asked : Asked asks o now taken
  pub state : after_closing o.levels o.opened u.state ≡ past o u.state.source
  pub levels : u.levels ≡ o.levels
  pub opened : u.opened ≡ o.opened
  -- the levels inside, and how many containers are open there
  pub inner_levels : u.state.levels ≡ inside u.wanted o.levels
  pub inner_opened : u.state.opened ≡ one_more o.opened

-- between two entries: k makes of the entries that are left what the whole reads as
abbrev pub AtKey : (reads : Meaning) → Option (Asking reads) → State → Outlook → Reader Unit → OpenPairs → Type 0
AtKey reads asks o k now u = Inside reads asks o (PairsLeft k u.state.levels u.wanted) now u

-- after a key of this name
abbrev pub AtValue : (reads : Meaning) → Option (Asking reads) → State → Outlook → List ℕ → Reader Unit → OpenPairs → Type 0
AtValue reads asks o k name now u = Inside reads asks o (ValueLeft k name u.state.levels u.wanted) now u

inner_of : (w : WantedPairs) (o : State) (r : Window) → (inside_pairs w o r).levels ≡ levels_inside o.levels w
inner_of (entries_of_object k) o r = refl
inner_of (fields_of_row ks) o r = refl

asked_of : (w : WantedPairs) (n : ℕ) → levels_inside n w ≡ inside w n
asked_of (entries_of_object k) n = one_less n
asked_of (fields_of_row ks) n = refl

open_of : (w : WantedPairs) (o : State) (r : Window) → (inside_pairs w o r).opened ≡ one_more o.opened
open_of (entries_of_object k) o r = refl
open_of (fields_of_row ks) o r = refl

closed_again : (w : WantedPairs) (o : State) (r : Window) → after_closing o.levels o.opened (inside_pairs w o r) ≡ past o r
closed_again (entries_of_object k) o r = refl
closed_again (fields_of_row ks) o r = refl

-- a key that is read changes no level
same_inside : (w : WantedPairs) (n : ℕ) → inside (pairs_after w) n ≡ inside w n
same_inside (entries_of_object k) n = refl
same_inside (fields_of_row ks) n = refl

pub inside_start : (reads : Meaning) (asks : Option (Asking reads)) (k : Outlook) (now : Reader Unit) (o : State) (u : OpenPairs) → ReadsObjects reads k → (opens : OpensPairs o u) → Asked asks o now opens.text → AtKey reads asks o k now u
inside_start reads asks k now o u by opens begun =
    let level : u.state.levels ≡ levels_inside o.levels u.wanted = ap (λ (s : State). s.levels) opens.state ∙ inner_of u.wanted o u.state.source in
    record {
      taken = opens.text;
      within = record {
        whole = λ c more v. record {
          tree = object v.parts;
          filled = pairs_whole o.levels o.due u.wanted v.parts opens.text more opens.head (subst (λ n. FillsPairs n u.wanted v.parts more) level v.filled);
          read = by.same v.parts ∙ v.read;
        };
        only = λ c text rest ys d e.
            let p = by.only d.tree c d.read in
            let q = pairs_only o.levels o.due u.wanted p.0 opens.text text rest ys opens.head (subst (λ t. Fills o.levels o.due t text) p.1 d.filled) e in
            (q.left, q.whole, record { parts = p.0; filled = subst (λ n. FillsPairs n u.wanted p.0 q.left) (sym level) q.wanted; read = sym (by.same p.0) ∙ ap reads (sym p.1) ∙ d.read });
      };
      took = opens.took;
      asked = begun;
      state = ap (after_closing o.levels o.opened) opens.state ∙ closed_again u.wanted o u.state.source;
      levels = opens.levels;
      opened = opens.opened;
      inner_levels = level ∙ asked_of u.wanted o.levels;
      inner_opened = ap (λ (s : State). s.opened) opens.state ∙ open_of u.wanted o u.state.source;
    }

-- the state after one more part was taken
pub inside_more : (reads : Meaning) (asks : Option (Asking reads)) (o : State) (V U : Content → Format) (now later : Reader Unit) (u t : OpenPairs) (d : Due) (text : List ℕ) → (h : Inside reads asks o V now u) → Within V U text
    → Took u.state.source t.state.source text → StepAsked asks now later text → t.state ≡ past (awaiting d u.state) t.state.source → inside t.wanted o.levels ≡ inside u.wanted o.levels → t.levels ≡ u.levels → t.opened ≡ u.opened
    → Inside reads asks o U later t
inside_more reads asks o V U now later u t d text h step took asked state depth levels opened = record {
  taken = h.taken ++ text;
  within = within_then (DueAs reads o) V U h.taken text h.within step;
  took = took_then o.source u.state.source t.state.source h.taken text h.took took;
  asked = asked_then reads asks o now later h.taken text h.asked asked;
  state = ap (after_closing o.levels o.opened) state ∙ ap {A = State} {B = State} (λ s. record s { source = t.state.source }) h.state;
  levels = levels ∙ h.levels;
  opened = opened ∙ h.opened;
  inner_levels = ap (λ (s : State). s.levels) state ∙ h.inner_levels ∙ sym depth;
  inner_opened = ap (λ (s : State). s.opened) state ∙ h.inner_opened;
}

-- the name of a key that was read
pub key_name : {A : Type 0} (K : Meaning) (holds : A → Content → Type 0) (u t : OpenPairs) (v : A) → IsKey K holds u t v → List ℕ
key_name K holds u t v key = (named_by u.state.levels u.wanted key.answers.tree key.answers.text key.counted key.answers.filled).name

pub key_read : {A : Type 0} (K : Meaning) (holds : A → Content → Type 0) (u t : OpenPairs) (v : A) → (key : IsKey K holds u t v) → K (key_tree (key_name K holds u t v key)) ≡ Some key.answers.content
unfolding key_name
key_read K holds u t v key = ap K (sym (named_by u.state.levels u.wanted key.answers.tree key.answers.text key.counted key.answers.filled).stands) ∙ key.answers.read

pub inside_key : {A : Type 0} (K : Meaning) (holds : A → Content → Type 0) (reads : Meaning) (asks : Option (Asking reads)) (k : Outlook) (now later : Reader Unit) (o : State) (u t : OpenPairs) (v : A) → AtKey reads asks o k now u
    → (key : IsKey K holds u t v) → StepAsked asks now later key.answers.text → AtValue reads asks o k (key_name K holds u t v key) later t
unfolding key_name
inside_key K holds reads asks k now later o u t v h key asked =
    let a = key.answers in
    let level : u.state.levels ≡ t.state.levels = sym (ap (λ (s : State). s.levels) a.state) in
    let wanted : pairs_after u.wanted ≡ t.wanted = sym (ap (λ (p : OpenPairs). p.wanted) key.after) in
    let name : List ℕ = (named_by u.state.levels u.wanted a.tree a.text key.counted a.filled).name in
    let step = key_step k u.state.levels u.wanted a.tree a.text key.counted a.filled in
    inside_more reads asks o (PairsLeft k u.state.levels u.wanted) (ValueLeft k name t.state.levels t.wanted) now later u t (pair_key u.wanted) a.text h
    (subst (λ n. Within (PairsLeft k u.state.levels u.wanted) (ValueLeft k name n t.wanted) a.text) level
    (subst (λ w. Within (PairsLeft k u.state.levels u.wanted) (ValueLeft k name u.state.levels w) a.text) wanted step))
    a.took asked a.state (ap (λ w. inside w o.levels) (sym wanted) ∙ same_inside u.wanted o.levels) (ap (λ (p : OpenPairs). p.levels) key.after) (ap (λ (p : OpenPairs). p.opened) key.after)

pub inside_value : {A : Type 0} (V : Meaning) (holds : A → Content → Type 0) (reads : Meaning) (asks : Option (Asking reads)) (k after : Outlook) (name : List ℕ) (now later : Reader Unit) (o : State) (u t : OpenPairs) (v : A)
    → AtValue reads asks o k name now u → (value : IsValue V holds u t v) → ((es : List (List ℕ × Tree)) → k ((name, value.answers.tree) ∷ es) ≡ after es) → StepAsked asks now later value.answers.text → AtKey reads asks o after later t
inside_value V holds reads asks k after name now later o u t v h value next asked =
    let a = value.answers in
    let level : u.state.levels ≡ t.state.levels = sym (ap (λ (s : State). s.levels) a.state) in
    let wanted : u.wanted ≡ t.wanted = sym (ap (λ (p : OpenPairs). p.wanted) value.after) in
    let step = value_step k after name u.state.levels u.wanted a.tree a.text next a.filled in
    inside_more reads asks o (ValueLeft k name u.state.levels u.wanted) (PairsLeft after t.state.levels t.wanted) now later u t (pair_value u.wanted) a.text h
    (subst (λ n. Within (ValueLeft k name u.state.levels u.wanted) (PairsLeft after n t.wanted) a.text) level
    (subst (λ w. Within (ValueLeft k name u.state.levels u.wanted) (PairsLeft after u.state.levels w) a.text) wanted step))
    a.took asked a.state (ap (λ w. inside w o.levels) (sym wanted)) (ap (λ (p : OpenPairs). p.levels) value.after) (ap (λ (p : OpenPairs). p.opened) value.after)

-- where no entry is left, nothing changes
pub inside_same : (reads : Meaning) (asks : Option (Asking reads)) (k : Outlook) (now : Reader Unit) (o : State) (u t : OpenPairs) → AtKey reads asks o k now u → NoEntry u t → AtKey reads asks o k now t
inside_same reads asks k now o u t h none = subst (AtKey reads asks o k now) (sym none.same) h

-- ---- the end

-- all entries are read, and the object is closed
pub inside_end : {A : Type 0} (holds : A → Content → Type 0) (reads : Meaning) (asks : Option (Asking reads)) (k : Outlook) (now : Reader Unit) (o z : State) (u : OpenPairs) (c : Content) (v : A) → AtKey reads asks o k now u → ClosesPairs u z
    → k [] ≡ Some c → holds v c → Answers reads holds o z v
inside_end holds reads asks k now o z u c v h closes read held =
    let due = h.within.whole c [] (record { parts = no_entries; filled = fills_none u.state.levels u.wanted closes.counted; read = read }) in
    let source : z.source ≡ u.state.source = ap (λ (y : State). y.source) closes.state in
    let state : z ≡ past o u.state.source = closes.state ∙ ap (λ n. after_closing n u.opened u.state) h.levels ∙ ap (λ n. after_closing o.levels n u.state) h.opened ∙ h.state in
    record {
      tree = due.tree;
      content = c;
      text = h.taken;
      filled = subst (Fills o.levels o.due due.tree) (append-nil h.taken) due.filled;
      read = due.read;
      held = held;
      took = subst (λ r. Took o.source r h.taken) (sym source) h.took;
      state = state ∙ ap (past o) (sym source);
    }

-- ---- refusals

-- what is no object is refused
pub opening_refused : (reads : Meaning) (asks : Option (Asking reads)) (k : Outlook) (needs : Needs) (e : Error) (o z : State) → ReadsObjects reads k → HeadAsked asks o (asked (pairs_at o.levels) o.opened o.due) → RefusesPairs e o z
    → Refuses reads asks needs e o z
opening_refused reads asks k needs e o z by head u =
    let r = asked (pairs_at o.levels) o.opened o.due in
    let M : Type 0 = NamesAsked needs asks e o in
    first_part needs (IsPairsHead o) (FillsReadably reads o) M M e o.source z.source (λ text f.
    let p = by.only f.tree f.content f.read in
    let b = pairs_begin o.levels o.due p.0 text (subst (λ t. Fills o.levels o.due t text) p.1 f.filled) in
    (b.head, b.rest, b.whole, (b.wanted, b.begins)))
    (λ n. n) (with_needs needs (IsPairsHead o) (NamesBy bare r e o.source) M e o.source z.source (λ n. head_named reads asks needs e o r head (names_bare needs r e o.source n)) u)

-- after what was taken, a whole goes on by what is left
goes_on : (reads : Meaning) (asks : Option (Asking reads)) (o : State) (V : Content → Format) (now : Reader Unit) (u : OpenPairs) → (h : Inside reads asks o V now u) → (text rest ys : List ℕ) → FillsReadably reads o text → text ++ rest ≡ h.taken ++ ys
    → (more : List ℕ) × (text ≡ h.taken ++ more) × ((c : Content) × V c more)
goes_on reads asks o V now u h text rest ys f e = let p = h.within.only f.content text rest ys (due_as reads o text f) e in (p.0, p.1, (f.content, p.2))

-- a refusal of the first part of what is left, which this names
pub part_refused : (needs : Needs) (reads : Meaning) (asks : Option (Asking reads)) (V : Content → Format) (now : Reader Unit) (W : Format) (N : Type 0) (e : Error) (o z : State) (u : OpenPairs) → Inside reads asks o V now u
    → ((c : Content) (text : List ℕ) → V c text → (first : List ℕ) × (second : List ℕ) × (text ≡ first ++ second) × W first) → (N → NamesAsked needs asks e o) → RefusesFront needs W N e u.state.source z.source → Refuses reads asks needs e o z
part_refused needs reads asks V now W N e o z u h first name refuses =
    sequel needs (λ x. (c : Content) × V c x) (FillsReadably reads o) N (NamesAsked needs asks e o) e o.source u.state.source z.source h.taken h.took (goes_on reads asks o V now u h) name
    (first_part needs W (λ x. (c : Content) × V c x) N N e u.state.source z.source (λ text v. first v.0 text v.1) (λ n. n) refuses)

-- each key that k reads is read by K
abbrev pub ReadsKeys : Meaning → Outlook → Type 0
ReadsKeys K k = (name : List ℕ) (t : Tree) (es : List (List ℕ × Tree)) (c : Content) → k ((name, t) ∷ es) ≡ Some c → (d : Content) × (K (key_tree name) ≡ Some d)

-- each value that k reads after this key is read by V
abbrev pub ReadsValues : Meaning → Outlook → List ℕ → Type 0
ReadsValues V k name = (t : Tree) (es : List (List ℕ × Tree)) (c : Content) → k ((name, t) ∷ es) ≡ Some c → (d : Content) × (V t ≡ Some d)

-- a refusal of a key
pub key_refused : (K : Meaning) (tells : Option (Asking K)) (some needs : Needs) (reads : Meaning) (asks : Option (Asking reads)) (k : Outlook) (now : Reader Unit) (e : Error) (o z : State) (u : OpenPairs)
    → (some.lent ≡ true → needs.lent ≡ true) → (some.memory ≡ true → needs.memory ≡ true) → (some.memory || some.keys ≡ true → needs.memory || needs.keys ≡ true)
    → ReadsKeys K k → AtKey reads asks o k now u → u.pending ≡ false → (0 < pairs_left u.wanted → FirstAsked asks tells (awaiting (pair_key u.wanted) u.state) now) → RefusesKey K tells some e u z → Refuses reads asks needs e o z
key_refused K tells some needs reads asks k now e o z u lent memory takes by h read first refuses =
    let left = refuses.counted h.took.failed read in
    let p : State = awaiting (pair_key u.wanted) u.state in
    part_refused needs reads asks (PairsLeft k u.state.levels u.wanted) now (FillsReadably K p) (NamesAsked needs tells e p) e o z u h
    (λ c text v.
    let f = first_key u.state.levels u.wanted v.parts text left v.filled in
    let d = by f.name f.value (entries f.others) c (ap (λ us. k (entries us)) (sym f.parts) ∙ v.read) in
    (f.front, f.rest, f.whole, record { tree = key_tree f.name; content = d.0; filled = f.filled; read = d.1 }))
    (λ n. part_named reads K asks tells needs e o p now h.taken h.asked h.took (first left) n) (wider_type K tells some needs e p z lent memory takes (refuses.refuses read))

-- a refusal of a value
pub value_refused : (V : Meaning) (tells : Option (Asking V)) (some needs : Needs) (reads : Meaning) (asks : Option (Asking reads)) (k : Outlook) (name : List ℕ) (now : Reader Unit) (e : Error) (o z : State) (u : OpenPairs)
    → (some.lent ≡ true → needs.lent ≡ true) → (some.memory ≡ true → needs.memory ≡ true) → (some.memory || some.keys ≡ true → needs.memory || needs.keys ≡ true)
    → ReadsValues V k name → AtValue reads asks o k name now u → u.pending ≡ true → FirstAsked asks tells (awaiting (pair_value u.wanted) u.state) now → RefusesValue V tells some e u z → Refuses reads asks needs e o z
value_refused V tells some needs reads asks k name now e o z u lent memory takes by h key first refuses =
    let p : State = awaiting (pair_value u.wanted) u.state in
    part_refused needs reads asks (ValueLeft k name u.state.levels u.wanted) now (FillsReadably V p) (NamesAsked needs tells e p) e o z u h
    (λ c text v.
    let d = by v.value (entries v.parts) c v.read in
    (v.filled.front, v.filled.rest, v.filled.whole, record { tree = v.value; content = d.0; filled = v.filled.first; read = d.1 }))
    (λ n. part_named reads V asks tells needs e o p now h.taken h.asked h.took first n) (wider_type V tells some needs e p z lent memory takes (refuses.refuses key))

-- want of memory between two entries
pub room_refused : (reads : Meaning) (asks : Option (Asking reads)) (k : Outlook) (now : Reader Unit) (needs : Needs) (e : Error) (o z : State) (u : OpenPairs) → needs.memory ≡ true → AtKey reads asks o k now u → e ≡ OutOfMemory
    → z.source ≡ closed u.state.source → Refuses reads asks needs e o z
room_refused reads asks k now needs e o z u memory h same closes = no_room reads asks needs o u.state z h.taken e memory h.took same closes
