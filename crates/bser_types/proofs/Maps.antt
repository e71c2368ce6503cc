-- A map that is read entry by entry.
use Rattle.std.proofs.Common.{◌≡◌, ℕ, zero, suc, ◌-◌, List, [], ◌∷◌, map, Ordering, Less, Equal, Greater, nat_cmp, Option, Some, None, option_map, option_and_then, fold, refl, sym, ap, subst, ◌∙◌, ◌<◌, inl, inr, false, arith}
use Rattle.std.proofs.lemmas.Bool.{or_left, or_right}
use Rattle.std.proofs.lemmas.Map.Text.{is_eq-slice_cmp}
use Rattle.std.proofs.lemmas.Slice.Eq.{bytes_eq-Decides}
use Rattle.std.specs.Cmp.Lexicographic.{slice_cmp}
use Rattle.std.specs.Ordering.{match_ordering, is_eq}
use Rattle.std.specs.BTreeMap.{insert_entry}
use Rattle.bser_format.specs.Tree.{Tree, null, boolean, integer, real, bytes, text, array, object, template, Entries}
use Rattle.bser_format.specs.Expand.{key_tree}
use Rattle.bser_format.specs.Content.{Content, byte_list, pair, Meaning, each_some}
use Rattle.bser_format.specs.Expected.{Fills, WantedPairs, node_due, key_due, field_due, name_due, entries_of_object, fields_of_row}
use Rattle.bser_format.specs.ReadsHolders.{reads_map, reads_entry, list_of}
use Rattle.bser_format.specs.declared.errors.Error.{Error}
use Rattle.bser_format.specs.declared.errors.Error.TheVariants.{OutOfMemory}
use Rattle.bser_source.specs.Device.{one_more}
use Rattle.bser_format.specs.Named.{Reader, refuses, and_then, ◌>>=◌, give}
use Rattle.bser_format.specs.DueReaders.{asked, pairs_at}
use Rattle.bser_format.specs.Asks.{Asks, all, each_name, map_asked, inside}
use Rattle.bser_format.proofs.Steps as steps
use Rattle.bser_format.proofs.Steps.{Continues, first_read}
use Rattle.bser_source.specs.Window.{closed}
use Rattle.bser_deserializer.specs.State.{State, awaiting}
use Rattle.bser_deserializer.specs.Reading.{Answers, Asking, Refuses, Needs}
use Rattle.bser_deserializer.specs.Parts.{BeginsPairs, pairs_left, pair_key, pair_value, pairs_after}
use Rattle.bser_deserializer.specs.Access.{OpenPairs, OpensPairs, RefusesPairs, NoEntry, IsEntry, ClosesPairs}
use Rattle.bser_deserializer.specs.HoldsMaps.{HoldsEntries}
use Rattle.bser_deserializer.proofs.Containers.{pairs_pass}
use Rattle.bser_types.specs.Accesses.{RefusesEntry}
use Rattle.bser_types.specs.Askings.{counted, asking_map}
use Rattle.bser_types.specs.Collected.{with_pair, map_needs}
use Rattle.bser_types.proofs.Naming.{Asked, StepAsked, HeadAsked, FirstAsked, asked_inside, part_passes}
use Rattle.bser_types.proofs.Objects.{Outlook, ReadsObjects, ReadsKeys, ReadsValues, AtKey, key_name, key_read, inside_start, inside_key, inside_value, inside_same, inside_end, opening_refused, key_refused, value_refused, room_refused}

-- ---- what the entries come to

-- what the entries that are left come to, after these pairs
abbrev pub map_outlook : Meaning → Meaning → List (List ℕ × Content) → Outlook
map_outlook K V ps es = option_map (λ more. list_of (map (λ p. p.1) (fold with_pair ps more))) (each_some (reads_entry K V) es)

pub map_reads : (K V : Meaning) → ReadsObjects (reads_map K V) (map_outlook K V [])
map_reads K V = record { same = λ us. refl; only = only }
  where
    only : (t : Tree) (c : Content) → reads_map K V t ≡ Some c → (us : Entries) × (t ≡ object us)
    only null c h = absurd cc
    only (boolean v) c h = absurd cc
    only (integer v) c h = absurd cc
    only (real v) c h = absurd cc
    only (bytes v) c h = absurd cc
    only (text v) c h = absurd cc
    only (array v) c h = absurd cc
    only (object us) c h = (us, refl)
    only (template ks rs) c h = absurd cc

entry_reads : (K V : Meaning) (name : List ℕ) (t : Tree) (c d : Content) → K (key_tree name) ≡ Some c → V t ≡ Some d → reads_entry K V (name, t) ≡ Some (name, pair c d)
entry_reads K V name t c d k v =
    ap (option_and_then (λ k. option_map (λ v. (name, pair k v)) (V t))) k ∙ ap (option_map (λ v. (name, pair c v))) v

pub map_next : (K V : Meaning) (ps : List (List ℕ × Content)) (name : List ℕ) (t : Tree) (c d : Content) → K (key_tree name) ≡ Some c → V t ≡ Some d
    → (es : List (List ℕ × Tree)) → map_outlook K V ps ((name, t) ∷ es) ≡ map_outlook K V (with_pair ps (name, pair c d)) es
map_next K V ps name t c d k v es =
    ap (λ o. option_map (λ more. list_of (map (λ p. p.1) (fold with_pair ps more))) (option_and_then (λ y. option_map (λ ys. y ∷ ys) (each_some (reads_entry K V) es)) o)) (entry_reads K V name t c d k v)
    ∙ joined (each_some (reads_entry K V) es)
  where
    joined : (o : Option (List (List ℕ × Content))) → option_map (λ more. list_of (map (λ p. p.1) (fold with_pair ps more))) (option_map (λ ys. (name, pair c d) ∷ ys) o)
        ≡ option_map (λ more. list_of (map (λ p. p.1) (fold with_pair (with_pair ps (name, pair c d)) more))) o
    joined None = refl
    joined (Some ys) = refl

-- an entry that comes to something has a key and a value that read
pub entry_parts : (K V : Meaning) (ps : List (List ℕ × Content)) (name : List ℕ) (t : Tree) (es : List (List ℕ × Tree)) (c : Content) → map_outlook K V ps ((name, t) ∷ es) ≡ Some c
    → ((d : Content) × (K (key_tree name) ≡ Some d)) × ((d : Content) × (V t ≡ Some d))
entry_parts K V ps name t es c h = at (K (key_tree name)) (V t) h
  where
    at : (k v : Option Content) → option_map (λ more. list_of (map (λ p. p.1) (fold with_pair ps more))) (option_and_then (λ y. option_map (λ ys. y ∷ ys) (each_some (reads_entry K V) es)) (option_and_then (λ k. option_map (λ v. (name, pair k v)) v) k)) ≡ Some c
        → ((d : Content) × (k ≡ Some d)) × ((d : Content) × (v ≡ Some d))
    at None v h = absurd cc
    at (Some k) None h = absurd cc
    at (Some k) (Some v) h = ((k, refl), (v, refl))

pub map_keys : (K V : Meaning) (ps : List (List ℕ × Content)) → ReadsKeys K (map_outlook K V ps)
map_keys K V ps name t es c h = (entry_parts K V ps name t es c h).0

pub map_values : (K V : Meaning) (ps : List (List ℕ × Content)) (name : List ℕ) → ReadsValues V (map_outlook K V ps) name
map_values K V ps name t es c h = (entry_parts K V ps name t es c h).1

-- ---- what the map holds

equal_bytes : (a b : List ℕ) → slice_cmp nat_cmp a b ≡ Equal → a ≡ b
equal_bytes a b e = (bytes_eq-Decides a b).0 (sym (is_eq-slice_cmp a b) ∙ ap is_eq e)

-- an entry is put into the map as its pair is among the pairs
pub holds_insert : {K V : Type 0} (name_of : K → List ℕ) (cmp : K → K → Ordering) → ((k l : K) → cmp k l ≡ slice_cmp nat_cmp (name_of k) (name_of l)) → (holds : V → Content → Type 0) (es : List (K × V)) (ps : List (List ℕ × Content)) (k : K) (v : V) (name : List ℕ) (d : Content)
    → name_of k ≡ name → holds v d → HoldsEntries name_of holds es ps → HoldsEntries name_of holds (insert_entry cmp es k v) (with_pair ps (name, pair (byte_list name) d))
holds_insert name_of cmp by_name holds [] [] k v name d e h held = (e, record { value = d; pair = refl; held = h }, tt)
holds_insert name_of cmp by_name holds [] (p ∷ ps) k v name d e h held = absurd held
holds_insert name_of cmp by_name holds (x ∷ es) [] k v name d e h held = absurd held
holds_insert name_of cmp by_name holds (x ∷ es) (p ∷ ps) k v name d e h (named, first, others) =
    let same : slice_cmp nat_cmp name p.0 ≡ cmp k x.0 = ap (λ n. slice_cmp nat_cmp n p.0) (sym e) ∙ ap (slice_cmp nat_cmp (name_of k)) (sym named) ∙ sym (by_name k x.0) in
    subst (λ o. HoldsEntries name_of holds (insert_entry cmp (x ∷ es) k v) (match_ordering o ((name, pair (byte_list name) d) ∷ p ∷ ps) ((p.0, pair (byte_list name) d) ∷ ps) (p ∷ with_pair ps (name, pair (byte_list name) d)))) (sym same)
    (at (cmp k x.0) refl (holds_insert name_of cmp by_name holds es ps k v name d e h others))
  where
    at : (o : Ordering) → o ≡ cmp k x.0 → HoldsEntries name_of holds (insert_entry cmp es k v) (with_pair ps (name, pair (byte_list name) d))
        → HoldsEntries name_of holds (match_ordering o ((k, v) ∷ x ∷ es) ((x.0, v) ∷ es) (x ∷ insert_entry cmp es k v)) (match_ordering o ((name, pair (byte_list name) d) ∷ p ∷ ps) ((p.0, pair (byte_list name) d) ∷ ps) (p ∷ with_pair ps (name, pair (byte_list name) d)))
    at Less q later = (e, record { value = d; pair = refl; held = h }, (named, first, others))
    at Equal q later =
        let keys : name_of k ≡ name_of x.0 = equal_bytes (name_of k) (name_of x.0) (sym (by_name k x.0) ∙ sym q) in
        let names : name ≡ p.0 = sym e ∙ keys ∙ named in
        (named, record { value = d; pair = ap (λ n. pair (byte_list n) d) names; held = h }, others)
    at Greater q later = (named, first, later)

-- ---- what is left to be asked for

-- the entries that are left of an object that was opened in the state o, where its keys and values tell what they ask for
abbrev pub map_now : {K V : Meaning} → Option (Asking K) → Option (Asking V) → State → WantedPairs → Reader Unit
map_now (Some a) (Some b) o w = map_asked (counted a.asks) (counted b.asks) (suc o.opened) (inside w o.levels) w
map_now _ _ o w = give tt

-- the value of a key that was read, and then the entries that are left
abbrev pub value_now : {K V : Meaning} → Option (Asking K) → Option (Asking V) → State → WantedPairs → Reader Unit
value_now (Some a) (Some b) o w =
    counted b.asks (suc o.opened) (inside w o.levels) (pair_value w) >>= λ u. map_asked (counted a.asks) (counted b.asks) (suc o.opened) (inside w o.levels) w
value_now _ _ o w = give tt

-- a key was passed over
key_passed : (K V : Asks) (o n : ℕ) (w : WantedPairs) (taken : List ℕ) → 0 < pairs_left w → steps.Passes (K o (inside w n) (pair_key w)) tt taken
    → Continues (map_asked K V o (inside w n) w) (V o (inside (pairs_after w) n) (pair_value (pairs_after w)) >>= λ u. map_asked K V o (inside (pairs_after w) n) (pairs_after w)) taken
key_passed K V o n (entries_of_object zero) taken some is = absurd (omega (arith, some))
key_passed K V o n (entries_of_object (suc k)) taken some is =
    let m = inside (entries_of_object k) n in
    let r : Reader Unit = K o m key_due >>= λ u. V o m node_due in
    let e : k ≡ suc k - 1 = omega arith in
    λ x. ap (λ a. and_then (λ u. all r k) (and_then (λ u. V o m node_due) a)) (is x) ∙ ap (λ j. and_then (λ u. all r j) (V o m node_due x)) e
key_passed K V o n (fields_of_row []) taken some is = absurd (omega (arith, some))
key_passed K V o n (fields_of_row (k ∷ ks)) taken some is =
    let r : List ℕ → Reader Unit = λ l. K o n (name_due l) >>= λ u. V o n field_due in
    λ x. ap (λ a. and_then (λ u. each_name r ks) (and_then (λ u. V o n field_due) a)) (is x)

-- what refuses a key refuses all that is left
key_first : (K V : Asks) (o n : ℕ) (w : WantedPairs) (x : List ℕ) (e : Error) → 0 < pairs_left w → K o n (pair_key w) x ≡ refuses e → map_asked K V o n w x ≡ refuses e
key_first K V o n (entries_of_object zero) x e some h = absurd (omega (arith, some))
key_first K V o n (entries_of_object (suc k)) x e some h =
    let r : Reader Unit = K o n key_due >>= λ u. V o n node_due in
    ap (λ a. and_then (λ u. all r k) (and_then (λ u. V o n node_due) a)) h
key_first K V o n (fields_of_row []) x e some h = absurd (omega (arith, some))
key_first K V o n (fields_of_row (k ∷ ks)) x e some h =
    let r : List ℕ → Reader Unit = λ l. K o n (name_due l) >>= λ u. V o n field_due in
    ap (λ a. and_then (λ u. each_name r ks) (and_then (λ u. V o n field_due) a)) h

map_begins : (K V : Meaning) (a : Option (Asking K)) (b : Option (Asking V)) (o : State) (w : WantedPairs) (taken : List ℕ) → BeginsPairs o.levels o.due w taken → Asked (asking_map a b) o (map_now a b o w) taken
map_begins K V None b o w taken head = tt
map_begins K V (Some a) None o w taken head = tt
map_begins K V (Some a) (Some b) o w taken head =
    first_read (asked (pairs_at o.levels) o.opened o.due) (λ v. map_asked (counted a.asks) (counted b.asks) (suc o.opened) (inside v o.levels) v) w taken (pairs_pass o.opened o.levels o.due w taken head)

map_head : (K V : Meaning) (a : Option (Asking K)) (b : Option (Asking V)) (o : State) → HeadAsked (asking_map a b) o (asked (pairs_at o.levels) o.opened o.due)
map_head K V None b o = tt
map_head K V (Some a) None o = tt
map_head K V (Some a) (Some b) o = λ x e h. ap (and_then (λ v. map_asked (counted a.asks) (counted b.asks) (suc o.opened) (inside v o.levels) v)) h

map_key_step : (K V : Meaning) (a : Option (Asking K)) (b : Option (Asking V)) (o i : State) (w v : WantedPairs) (t : Tree) (c : Content) (taken : List ℕ) → i.opened ≡ one_more o.opened → i.levels ≡ inside w o.levels → v ≡ pairs_after w
    → 0 < pairs_left w → Fills i.levels (pair_key w) t taken → K t ≡ Some c → StepAsked (asking_map a b) (map_now a b o w) (value_now a b o v) taken
map_key_step K V None b o i w v t c taken opened levels after some filled read = tt
map_key_step K V (Some a) None o i w v t c taken opened levels after some filled read = tt
map_key_step K V (Some a) (Some b) o i w v t c taken opened levels after some filled read =
    subst (λ z. Continues (map_now (Some a) (Some b) o w) (value_now (Some a) (Some b) o z) taken) (sym after)
    (key_passed (counted a.asks) (counted b.asks) (suc o.opened) o.levels w taken some (part_passes K a o i (inside w o.levels) (pair_key w) t c taken opened levels filled read))

map_value_step : (K V : Meaning) (a : Option (Asking K)) (b : Option (Asking V)) (o i : State) (w v : WantedPairs) (t : Tree) (c : Content) (taken : List ℕ) → i.opened ≡ one_more o.opened → i.levels ≡ inside w o.levels → v ≡ w
    → Fills i.levels (pair_value w) t taken → V t ≡ Some c → StepAsked (asking_map a b) (value_now a b o w) (map_now a b o v) taken
map_value_step K V None b o i w v t c taken opened levels same filled read = tt
map_value_step K V (Some a) None o i w v t c taken opened levels same filled read = tt
map_value_step K V (Some a) (Some b) o i w v t c taken opened levels same filled read =
    subst (λ z. Continues (value_now (Some a) (Some b) o w) (map_now (Some a) (Some b) o z) taken) (sym same)
    (first_read (counted b.asks (suc o.opened) (inside w o.levels) (pair_value w)) (λ u. map_asked (counted a.asks) (counted b.asks) (suc o.opened) (inside w o.levels) w) tt taken
    (part_passes V b o i (inside w o.levels) (pair_value w) t c taken opened levels filled read))

map_key_first : (K V : Meaning) (a : Option (Asking K)) (b : Option (Asking V)) (o i : State) (w : WantedPairs) → i.opened ≡ one_more o.opened → i.levels ≡ inside w o.levels → 0 < pairs_left w
    → FirstAsked (asking_map a b) a (awaiting (pair_key w) i) (map_now a b o w)
map_key_first K V None b o i w opened levels some = tt
map_key_first K V (Some a) None o i w opened levels some = tt
map_key_first K V (Some a) (Some b) o i w opened levels some =
    λ x e h. key_first (counted a.asks) (counted b.asks) (suc o.opened) (inside w o.levels) w x e some (sym (asked_inside a.asks o i (inside w o.levels) (pair_key w) x opened levels) ∙ h)

map_value_first : (K V : Meaning) (a : Option (Asking K)) (b : Option (Asking V)) (o i : State) (w : WantedPairs) → i.opened ≡ one_more o.opened → i.levels ≡ inside w o.levels
    → FirstAsked (asking_map a b) b (awaiting (pair_value w) i) (value_now a b o w)
map_value_first K V None b o i w opened levels = tt
map_value_first K V (Some a) None o i w opened levels = tt
map_value_first K V (Some a) (Some b) o i w opened levels =
    λ x e h. ap (and_then (λ u. map_asked (counted a.asks) (counted b.asks) (suc o.opened) (inside w o.levels) w)) (sym (asked_inside b.asks o i (inside w o.levels) (pair_value w) x opened levels) ∙ h)

-- ---- a map by its keys' bytes

same_text : (name other : List ℕ) → byte_list name ≡ byte_list other → name ≡ other
same_text name other e = cc

-- an entry that was read leaves fewer
fewer : (w : WantedPairs) → 0 < pairs_left w → pairs_left (pairs_after w) < pairs_left w
fewer (entries_of_object k) h = omega (arith, h)
fewer (fields_of_row []) h = absurd (omega (arith, h))
fewer (fields_of_row (k ∷ ks)) h = omega arith

-- the types of a map's keys and of its values, what they ask for, and by which bytes keys are read
pub record MapOf : Type 1 where
  pub Key : Type 0
  pub Val : Type 0
  pub name : Key → List ℕ
  pub keys : Meaning
  pub key_asks : Option (Asking keys)
  pub holds_key : Key → Content → Type 0
  pub key_needs : Needs
  pub vals : Meaning
  pub val_asks : Option (Asking vals)
  pub holds : Val → Content → Type 0
  pub val_needs : Needs
  pub read : (k : List ℕ) (c : Content) → keys (key_tree k) ≡ Some c → c ≡ byte_list k
  pub held : (k : Key) (c : Content) → holds_key k c → c ≡ byte_list (name k)

-- what the entries so far hold
abbrev pub HoldsPairs : Type 1
HoldsPairs = List (List ℕ × Content) → Type 0

module _ (T : MapOf) where
  abbrev reads : Meaning
  reads = reads_map T.keys T.vals

  abbrev asks : Option (Asking (reads_map T.keys T.vals))
  asks = asking_map T.key_asks T.val_asks

  abbrev outlook : List (List ℕ × Content) → Outlook
  outlook = map_outlook T.keys T.vals

  abbrev at_key : State → WantedPairs → Reader Unit
  at_key = map_now T.key_asks T.val_asks

  abbrev at_value : State → WantedPairs → Reader Unit
  at_value = value_now T.key_asks T.val_asks

  -- how such a map is refused
  abbrev pub RefusesMap : Error → State → State → Type 0
  RefusesMap e o z = Refuses (reads_map T.keys T.vals) (asking_map T.key_asks T.val_asks) (map_needs T.key_needs T.val_needs) e o z

  -- entries with these pairs were read of the map that was due in the state o
  pub record AtEntry (o : State) (Held : HoldsPairs) (u : OpenPairs) : Type 0 where
    pub pairs : List (List ℕ × Content)
    pub held : Held pairs
    pub inside : AtKey (reads_map T.keys T.vals) (asking_map T.key_asks T.val_asks) o (map_outlook T.keys T.vals pairs) (map_now T.key_asks T.val_asks o u.wanted) u
    pub pending : u.pending ≡ false

  pub map_start : {o : State} {Held : HoldsPairs} {u : OpenPairs} → Held [] → OpensPairs o u → AtEntry o Held u
  map_start {o = o} {u = u} empty opens = record {
    pairs = [];
    held = empty;
    inside = inside_start reads asks (outlook []) (at_key o u.wanted) o u (map_reads T.keys T.vals) opens (map_begins T.keys T.vals T.key_asks T.val_asks o u.wanted opens.text opens.head);
    pending = opens.pending;
  }

  -- an entry goes to the others as its pair does
  abbrev pub PutsPair : HoldsPairs → HoldsPairs → T.Key × T.Val → Type 0
  PutsPair Held After e = (d : Content) (ps : List (List ℕ × Content)) → T.holds e.1 d → Held ps → After (with_pair ps (T.name e.0, pair (byte_list (T.name e.0)) d))

  pub map_entry : {o : State} {Held After : HoldsPairs} {u t : OpenPairs} {e : T.Key × T.Val} → AtEntry o Held u → IsEntry T.keys T.vals T.holds_key T.holds u t e → PutsPair Held After e → AtEntry o After t
  map_entry {o = o} {After = After} {u = u} {t = t} {e = e} h next puts =
      let m = next.between in
      let key = next.key in
      let k = key.answers in
      let value = next.value.answers in
      let name = key_name T.keys T.holds_key u m e.0 key in
      let read = key_read T.keys T.holds_key u m e.0 key in
      let c = k.content in
      let taken : c ≡ byte_list name = T.read name c read in
      let named : T.name e.0 ≡ name = same_text (T.name e.0) name (sym (T.held e.0 c k.held) ∙ taken) in
      let read' : T.keys (key_tree name) ≡ Some (byte_list name) = read ∙ ap Some taken in
      let made = map_next T.keys T.vals h.pairs name value.tree (byte_list name) value.content read' value.read in
      let put = with_pair h.pairs (name, pair (byte_list name) value.content) in
      let key_step = map_key_step T.keys T.vals T.key_asks T.val_asks o u.state u.wanted m.wanted k.tree k.content k.text h.inside.inner_opened h.inside.inner_levels (ap (λ (p : OpenPairs). p.wanted) key.after) key.counted k.filled k.read in
      let at = inside_key T.keys T.holds_key reads asks (outlook h.pairs) (at_key o u.wanted) (at_value o m.wanted) o u m e.0 h.inside key key_step in
      let value_step = map_value_step T.keys T.vals T.key_asks T.val_asks o m.state m.wanted t.wanted value.tree value.content value.text at.inner_opened at.inner_levels (ap (λ (p : OpenPairs). p.wanted) next.value.after) value.filled value.read in
      record {
        pairs = put;
        held = subst (λ n. After (with_pair h.pairs (n, pair (byte_list n) value.content))) named (puts value.content h.pairs value.held h.held);
        inside = inside_value T.vals T.holds reads asks (outlook h.pairs) (outlook put) name (at_value o m.wanted) (at_key o t.wanted) o m t e.1 at next.value made value_step;
        pending = ap (λ (p : OpenPairs). p.pending) next.value.after;
      }

  pub map_end : {M : Type 0} (holds : M → Content → Type 0) {o z : State} {Held : HoldsPairs} {u t : OpenPairs} (m : M) → ((ps : List (List ℕ × Content)) → Held ps → holds m (list_of (map (λ p. p.1) ps)))
      → AtEntry o Held u → NoEntry u t → ClosesPairs t z → Answers (reads_map T.keys T.vals) holds o z m
  map_end holds {o = o} {z = z} {u = u} {t = t} m whole h none closes =
      inside_end holds reads asks (outlook h.pairs) (at_key o u.wanted) o z t (list_of (map (λ p. p.1) h.pairs)) m
      (inside_same reads asks (outlook h.pairs) (at_key o u.wanted) o u t h.inside none) closes refl (whole h.pairs h.held)

  pub map_refused : {e : Error} {o : State} (z : State) → RefusesPairs e o z → RefusesMap e o z
  map_refused {e = e} {o = o} z u =
      opening_refused reads asks (outlook []) (map_needs T.key_needs T.val_needs) e o z (map_reads T.keys T.vals) (map_head T.keys T.vals T.key_asks T.val_asks o) u

  pub entry_refused : {e : Error} {o z : State} {Held : HoldsPairs} {u : OpenPairs} → AtEntry o Held u → RefusesEntry T.keys T.vals T.key_asks T.val_asks T.holds_key T.key_needs T.val_needs e u z → RefusesMap e o z
  entry_refused {e = e} {o = o} {z = z} {u = u} h (inl unread) =
      key_refused T.keys T.key_asks T.key_needs (map_needs T.key_needs T.val_needs) reads asks (outlook h.pairs) (at_key o u.wanted) e o z u (or_left T.key_needs.lent T.val_needs.lent) (λ memory. refl) (λ takes. refl)
      (map_keys T.keys T.vals h.pairs) h.inside h.pending (λ some. map_key_first T.keys T.vals T.key_asks T.val_asks o u.state u.wanted h.inside.inner_opened h.inside.inner_levels some) unread
  entry_refused {e = e} {o = o} {z = z} {u = u} h (inr later) =
      let m = later.between in
      let k = later.key.answers in
      let name = key_name T.keys T.holds_key u m later.name later.key in
      let key_step = map_key_step T.keys T.vals T.key_asks T.val_asks o u.state u.wanted m.wanted k.tree k.content k.text h.inside.inner_opened h.inside.inner_levels (ap (λ (p : OpenPairs). p.wanted) later.key.after) later.key.counted k.filled k.read in
      let at = inside_key T.keys T.holds_key reads asks (outlook h.pairs) (at_key o u.wanted) (at_value o m.wanted) o u m later.name h.inside later.key key_step in
      value_refused T.vals T.val_asks T.val_needs (map_needs T.key_needs T.val_needs) reads asks (outlook h.pairs) name (at_value o m.wanted) e o z m (or_right T.key_needs.lent T.val_needs.lent) (λ memory. refl) (λ takes. refl)
      (map_values T.keys T.vals h.pairs name) at (ap (λ (p : OpenPairs). p.pending) later.key.after) (map_value_first T.keys T.vals T.key_asks T.val_asks o m.state m.wanted at.inner_opened at.inner_levels) later.value

  -- no room for an entry that was read
  pub insert_refused : (err : Error) (z : State) {o : State} {Held : HoldsPairs} {u t : OpenPairs} {e : T.Key × T.Val} → AtEntry o Held u → IsEntry T.keys T.vals T.holds_key T.holds u t e → err ≡ OutOfMemory → z.source ≡ closed t.state.source → RefusesMap err o z
  insert_refused err z {o = o} {t = t} h next same closes =
      let more : AtEntry o (λ ps. Unit {0}) t = map_entry h next (λ d ps held pairs. tt) in
      room_refused reads asks (outlook more.pairs) (at_key o t.wanted) (map_needs T.key_needs T.val_needs) err o z t refl more.inside same closes

pub entry_fewer : {A B : Type 0} {K V : Meaning} {holds_key : A → Content → Type 0} {holds : B → Content → Type 0} {u t : OpenPairs} {e : A × B} → IsEntry K V holds_key holds u t e → pairs_left t.wanted < pairs_left u.wanted
entry_fewer {u = u} next =
    let key = ap (λ (p : OpenPairs). p.wanted) next.key.after in
    let value = ap (λ (p : OpenPairs). p.wanted) next.value.after in
    rw (value, key) (fewer u.wanted next.key.counted)
