-- What is seen of what is due: its tag, a tag of another kind than is asked for, and where no value is due.
use Rattle.std.proofs.Common.{◌≡◌, ℕ, zero, suc, ◌<◌, ◌≤◌, Bool, true, false, cond, List, [], ◌∷◌, ◌++◌, length, drop, get_or, Some, refl, sym, ap, subst, ◌∙◌, arith, inl, inr, ◌⊎◌, ◌||◌, nat_eq}
use Rattle.std.proofs.lemmas.Bool.{eqb-true}
use Rattle.bser_format.specs.Grammar.{Format}
use Rattle.bser_format.specs.Content.{Meaning}
use Rattle.bser_format.specs.Expected.{Due, nothing_due, node_due, key_due, field_due, name_due, row_due}
use Rattle.bser_format.specs.declared.errors.Error.{Error}
use Rattle.bser_format.specs.declared.errors.Error.TheVariants.{DeInvalidStartByte, DeReaderError}
use Rattle.bser_format.specs.declared.errors.Kind.TheVariants.{NextItem, MapKey}
use Rattle.bser_format.specs.declared.errors.ReadCause.TheVariants.{Failed}
use Rattle.bser_format.specs.Named as named
use Rattle.bser_format.specs.Named.{refuses, and_then, next}
use Rattle.bser_format.specs.DueReaders.{Seen, tag, name, row, is_tag, is_key_tag, asked, nothing_here, nothing_at, stray_at, wrong_type}
use Rattle.bser_format.specs.Clauses.{after_a_refusal}
use Rattle.bser_format.proofs.Steps as steps
use Rattle.bser_source.specs.Window.{Window, Grown, Filled, Peeks, Took, closed}
use Rattle.bser_source.proofs.Windows.{took_grown}
use Rattle.bser_bunser.specs.Refusal.{Fails, failures_by}
use Rattle.bser_bunser.proofs.Names.{left_now, left_before, known_rest}
use Rattle.bser_deserializer.specs.Dues.{IsValueDue, IsTagged, name_at, due_of}
use Rattle.bser_deserializer.specs.declared.due.Due as code
use Rattle.bser_deserializer.specs.declared.due.Due.TheVariants as due
use Rattle.bser_deserializer.specs.State.{State}
use Rattle.bser_bunser.specs.Names.{RefusedAs}
use Rattle.bser_deserializer.specs.Reading.{OutsideBy, IsRefusal, Asking, NamesBy, NamesDue, RefusesFront, FillsReadably, Refuses, bare, refusing, Needs}
use Rattle.bser_deserializer.proofs.Refusals.{names_bare, names_by_grown, names_by_more, no_failure, fails_closed, fails_before, with_needs, by_name}
use Rattle.bser_deserializer.proofs.Clean.{Clean, clean_asked}
use Rattle.bser_deserializer.specs.View.{value_here}

-- ---- refusals by a reader's name

-- the name that one reader gives is that of another, which reads what is wanted
pub front_refused : {X Y : Type 0} (needs : Needs) (r : named.Reader X) (s : named.Reader Y) (W : Format) (e : Error) (a b : Window)
    → ((f : Error) (x : List ℕ) → s x ≡ refuses f → r x ≡ refuses f) → Clean r → ((text : List ℕ) → W text → (v : X) × steps.Passes r v text)
    → Fails e a b → NamesBy bare s e a → RefusesFront needs W (NamesBy needs r e a) e a b
front_refused needs r s W e a b same clean passes fails said =
    with_needs needs W (NamesBy bare r e a) (NamesBy needs r e a) e a b (names_bare needs r e a)
    (by_name bare W r e a b passes (λ x h. clean x e h) refl fails (names_by_more bare r s e a same said))

-- a refusal by the name that a type gives
pub asking_refused : {X : Type 0} (needs : Needs) (reads : Meaning) (a : Asking reads) (s : named.Reader X) (e : Error) (old new : State)
    → ((f : Error) (x : List ℕ) → s x ≡ refuses f → a.asks old.opened old.levels old.due x ≡ refuses f) → Clean (a.asks old.opened old.levels old.due)
    → Fails e old.source new.source → NamesBy bare s e old.source → Refuses reads (Some a) needs e old new
asking_refused needs reads a s e old new same clean fails said =
    front_refused needs (a.asks old.opened old.levels old.due) s (FillsReadably reads old) e old.source new.source same clean
    (λ text f. (tt, λ x. a.passes old.opened old.levels old.due f.tree f.content text x f.filled f.read)) fails said

-- the same refusal of another reader
pub same_name : {X Y : Type 0} (f e : Error) → ◌≡◌ {A = named.Answer X} (refuses f) (refuses e) → ◌≡◌ {A = named.Answer Y} (refuses f) (refuses e)
same_name f e h = (let same : f ≡ e = cc in ap refuses same)

-- what has failed refuses by a reason outside the bytes
pub failed_names : {X : Type 0} (needs : Needs) (r : named.Reader X) (e : Error) (a b : Window) → a.failed ≡ true → Fails e a b → NamesBy needs r e a
failed_names needs r e a b failed fails = inr (subst (λ z. OutsideBy (refusing needs) (RefusedAs r) z a) (sym (fails.before failed)) (inl failed))

-- ---- a look at the next byte

-- the next byte and others came to be taken
pub peeked_took : (a b c : Window) (t : ℕ) (bs : List ℕ) → Peeks a b t → Took b c bs → 0 < length bs → Took a c bs
peeked_took a b c t bs peeks took some = took_grown a b c 1 bs peeks.filled.grown (omega (arith, some)) took

front_of : (l : List ℕ) → 1 ≤ length l → l ≡ get_or l 0 0 ∷ drop 1 l
front_of [] some = absurd (omega (arith, some))
front_of (x ∷ l) some = refl

-- a byte that is buffered is seen
pub peeked : (a b : Window) (held : List ℕ) → Filled 1 a b → held ≡ b.buffered → Peeks a b (get_or held 0 0)
peeked a b held filled same =
    subst (λ l. Peeks a b (get_or l 0 0)) (sym same) (record { filled = filled; next = front_of b.buffered filled.enough })

-- bytes that may be left begin with it
pub grown_left : {X : Type 0} (needs : Needs) (r : named.Reader X) (e : Error) (n : ℕ) (a b : Window) (t : ℕ)
    → ((y : List ℕ) → r (t ∷ y) ≡ refuses e) → Grown n a b → b.buffered ≡ t ∷ drop 1 b.buffered → NamesBy needs r e a
grown_left needs r e n a b t is grown first =
    let y = drop 1 b.buffered ++ known_rest b.beyond in
    let whole : b.buffered ++ known_rest b.beyond ≡ t ∷ y = ap (λ l. l ++ known_rest b.beyond) first in
    inl (b.buffered ++ known_rest b.beyond, left_before n a b (b.buffered ++ known_rest b.beyond) grown (left_now b), ap r whole ∙ is y)

-- what is refused with the byte in sight
pub peeked_names : {X Y : Type 0} (needs : Needs) (r : named.Reader X) (s : named.Reader Y) (e : Error) (a b : Window) (t : ℕ)
    → ((f : Error) (y : List ℕ) → s (t ∷ y) ≡ refuses f → r (t ∷ y) ≡ refuses f) → Peeks a b t → NamesBy needs s e b → NamesBy needs r e a
peeked_names needs r s e a b t same peeks h = names_by_grown needs r s e 1 a b peeks.filled.grown from h
  where
    from : (f : Error) (x more : List ℕ) → x ≡ b.buffered ++ more → s x ≡ refuses f → r x ≡ refuses f
    from f x more whole p =
        let first : x ≡ t ∷ (drop 1 b.buffered ++ more) = whole ∙ ap (λ l. l ++ more) peeks.next in
        ap r first ∙ same f (drop 1 b.buffered ++ more) (ap s (sym first) ∙ p)

-- nothing is left
pub nothing_left : {X : Type 0} (k : Seen → named.Reader X) (o : ℕ) (d : Due) (x : List ℕ) → IsTagged d → x ≡ [] → asked k o d x ≡ refuses named.eof
nothing_left k o nothing_due x is e = absurd is
nothing_left k o node_due x is e = ap (asked k o node_due) e
nothing_left k o key_due x is e = ap (asked k o key_due) e
nothing_left k o field_due x is e = ap (asked k o field_due) e
nothing_left k o (name_due n) x is e = absurd is
nothing_left k o (row_due ks) x is e = absurd is

-- ---- a tag of another kind

by_bool : {X : Type 0} (c : Bool) (s : Seen) (k : Seen → named.Reader X) (e f : Error) (y : List ℕ) → k s y ≡ refuses f
    → and_then k (cond c (named.give s) (named.refuse e) y) ≡ refuses (cond c f e)
by_bool true s k e f y h = h
by_bool false s k e f y h = refl

-- a tag that is not of the kind that is asked for
pub stray_asked : {X : Type 0} (k : Seen → named.Reader X) (o : ℕ) (d : Due) (t : ℕ) (y : List ℕ) → IsTagged d → k (tag t) y ≡ refuses wrong_type
    → asked k o d (t ∷ y) ≡ refuses (stray_at d t)
stray_asked k o nothing_due t y is h = absurd is
stray_asked k o node_due t y is h = by_bool (is_tag false t) (tag t) k (DeInvalidStartByte NextItem t) wrong_type y h
stray_asked k o key_due t y is h = by_bool (is_key_tag t) (tag t) k (DeInvalidStartByte MapKey t) wrong_type y h
stray_asked k o field_due t y is h = by_bool (is_tag true t) (tag t) k (DeInvalidStartByte NextItem t) wrong_type y h
stray_asked k o (name_due n) t y is h = absurd is
stray_asked k o (row_due ks) t y is h = absurd is

-- a tag of another kind was seen
pub stray_names : {X : Type 0} (k : Seen → named.Reader X) (t : ℕ) (s : State) (b : Window) → IsTagged s.due → Peeks s.source b t
    → ((y : List ℕ) → k (tag t) y ≡ refuses wrong_type) → NamesDue bare k (stray_at s.due t) s
stray_names k t s b is peeks h =
    grown_left bare (asked k s.opened s.due) (stray_at s.due t) 1 s.source b t (λ y. stray_asked k s.opened s.due t y is (h y)) peeks.filled.grown peeks.next

if_kind : (c : Bool) (e f : Error) → IsRefusal e → IsRefusal f → IsRefusal (cond c e f)
if_kind true e f h k = h
if_kind false e f h k = k

-- the bytes are to blame for such a refusal
pub stray_kind : (d : Due) (t : ℕ) → IsRefusal (stray_at d t)
stray_kind nothing_due t = tt
stray_kind node_due t = if_kind (is_tag false t) wrong_type (DeInvalidStartByte NextItem t) tt tt
stray_kind key_due t = if_kind (is_key_tag t) wrong_type (DeInvalidStartByte MapKey t) tt tt
stray_kind field_due t = if_kind (is_tag true t) wrong_type (DeInvalidStartByte NextItem t) tt tt
stray_kind (name_due n) t = tt
stray_kind (row_due ks) t = tt

-- bytes came to be buffered, and then all is refused because of them
pub grown_fails : (n : ℕ) (e : Error) (a b c : Window) → IsRefusal e → Grown n a b → a.failed ≡ false → c ≡ closed b → Fails e a c
grown_fails n e a b c kind grown working same =
    fails_before n e a b c grown (fails_closed e b c (λ f. absurd (let w = grown.failed in cc)) (λ k. no_failure k e kind) same)

pub stray_fails : (d : Due) (t : ℕ) (a b c : Window) → Peeks a b t → c ≡ closed b → Fails (stray_at d t) a c
stray_fails d t a b c peeks same = grown_fails 1 (stray_at d t) a b c (stray_kind d t) peeks.filled.grown peeks.filled.working same

-- a value, a field or a key begins with a tag
pub tagged_due : (ks : List (List ℕ)) (place : ℕ) (d : code.Due) → (d ≡ due.Node) ⊎ ((d ≡ due.Field) ⊎ (d ≡ due.Key)) → IsTagged (due_of ks place d)
tagged_due ks place d (inl e) = subst (λ x. IsTagged (due_of ks place x)) (sym e) tt
tagged_due ks place d (inr (inl e)) = subst (λ x. IsTagged (due_of ks place x)) (sym e) tt
tagged_due ks place d (inr (inr e)) = subst (λ x. IsTagged (due_of ks place x)) (sym e) tt

-- where no tag is due, each is of another kind
pub other_stray : (ks : List (List ℕ)) (place : ℕ) (d : code.Due) (t : ℕ) → (d ≡ due.Node → ⊥) → (d ≡ due.Key → ⊥) → (d ≡ due.Field → ⊥)
    → stray_at (due_of ks place d) t ≡ wrong_type
other_stray ks place due.Nothing t node key field = refl
other_stray ks place due.Node t node key field = absurd (node refl)
other_stray ks place due.Key t node key field = absurd (key refl)
other_stray ks place due.Field t node key field = absurd (field refl)
other_stray ks place due.Name t node key field = place_stray place ks
  where
    place_stray : (place : ℕ) (ks : List (List ℕ)) → stray_at (name_at place ks) t ≡ wrong_type
    place_stray place [] = refl
    place_stray zero (k ∷ ks) = refl
    place_stray (suc place) (k ∷ ks) = place_stray place ks
other_stray ks place due.Row t node key field = refl

-- ---- where nothing of the kind is due

pub nothing_kind : (opened : ℕ) → IsRefusal (nothing_here opened)
nothing_kind zero = tt
nothing_kind (suc opened) = tt

-- what is due has no tag and is something
pub untagged_asked : (o : ℕ) (ks : List (List ℕ)) (place : ℕ) (d : code.Due) (x : List ℕ) → (IsValueDue (due_of ks place d) → ⊥) → (d ≡ due.Key → ⊥)
    → (due_of ks place d ≡ nothing_due → ⊥)
    → asked nothing_at o (due_of ks place d) x ≡ refuses wrong_type
untagged_asked o ks place due.Nothing x none key some = absurd (some refl)
untagged_asked o ks place due.Node x none key some = absurd (none tt)
untagged_asked o ks place due.Key x none key some = absurd (key refl)
untagged_asked o ks place due.Field x none key some = absurd (none tt)
untagged_asked o ks place due.Name x none key some = by_place place ks some
  where
    by_place : (place : ℕ) (ks : List (List ℕ)) → (name_at place ks ≡ nothing_due → ⊥) → asked nothing_at o (name_at place ks) x ≡ refuses wrong_type
    by_place place [] some = absurd (some refl)
    by_place zero (k ∷ ks) some = refl
    by_place (suc place) (k ∷ ks) some = by_place place ks some
untagged_asked o ks place due.Row x none key some = refl

-- a complaint in place of what is due
pub complained_names : {X : Type 0} (needs : Needs) (r : named.Reader X) (f e : Error) (s : Window) → e ≡ after_a_refusal s.failed f
    → ((x : List ℕ) → r x ≡ refuses f) → NamesBy needs r e s
complained_names needs r f e s same is = go s.failed refl same
  where
    go : (c : Bool) → s.failed ≡ c → e ≡ after_a_refusal c f → NamesBy needs r e s
    go false h k = inl (s.buffered ++ known_rest s.beyond, left_now s, is (s.buffered ++ known_rest s.beyond) ∙ ap refuses (sym k))
    go true h k = inr (subst (λ z. OutsideBy (refusing needs) (RefusedAs r) z s) (sym k) (inl h))

-- the same as a refusal where what is due is never what was wanted
pub complained_fails : (f e : Error) (a b : Window) → IsRefusal f → e ≡ after_a_refusal a.failed f → b ≡ closed a → Fails e a b
complained_fails f e a b kind same closes = fails_closed e a b (first a.failed same) (λ n. none n a.failed same) closes
  where
    first : (c : Bool) → e ≡ after_a_refusal c f → c ≡ true → e ≡ DeReaderError Failed
    first true k h = k
    first false k h = absurd cc

    none : (n : ℕ) (c : Bool) → e ≡ after_a_refusal c f → failures_by e n ≡ n
    none n true k = ap (λ z. failures_by z n) k
    none n false k = ap (λ z. failures_by z n) k ∙ no_failure n f kind

-- ---- the tag of a value

pub tagged_value : (d : Due) → IsValueDue d → IsTagged d
tagged_value nothing_due is = absurd is
tagged_value node_due is = tt
tagged_value key_due is = absurd is
tagged_value field_due is = tt
tagged_value (name_due n) is = absurd is
tagged_value (row_due ks) is = absurd is

-- where no value is due, k reads no more than a value
abbrev pub WantsValue : {X : Type 0} → (Seen → named.Reader X) → Due → Type 0
WantsValue k key_due = (t : ℕ) (x : List ℕ) → is_key_tag t ≡ true → k (tag t) x ≡ refuses wrong_type
WantsValue k (name_due s) = (x : List ℕ) → k (name s) x ≡ refuses wrong_type
WantsValue k (row_due ks) = (x : List ℕ) → k (row ks) x ≡ refuses wrong_type
WantsValue k _ = Unit {0}

-- a key has one of two tags
pub key_tag_told : (t : ℕ) → is_key_tag t ≡ true → (t ≡ 0x02) ⊎ (t ≡ 0x0d)
key_tag_told t is = at (nat_eq t 0x02) refl is
  where
    at : (c : Bool) → nat_eq t 0x02 ≡ c → c || nat_eq t 0x0d ≡ true → (t ≡ 0x02) ⊎ (t ≡ 0x0d)
    at true q h = inl (eqb-true t 0x02 q)
    at false q h = inr (eqb-true t 0x0d h)

pub wants_value : {X : Type 0} (k : Seen → named.Reader X) (d : Due) → ((x : List ℕ) → k (tag 0x02) x ≡ refuses wrong_type)
    → ((x : List ℕ) → k (tag 0x0d) x ≡ refuses wrong_type)
    → ((s : List ℕ) (x : List ℕ) → k (name s) x ≡ refuses wrong_type) → ((ks : List (List ℕ)) (x : List ℕ) → k (row ks) x ≡ refuses wrong_type)
    → WantsValue k d
wants_value k nothing_due bytes text named of_row = tt
wants_value k node_due bytes text named of_row = tt
wants_value k key_due bytes text named of_row = λ t x is. by_tag t x (key_tag_told t is)
  where
    by_tag : (t : ℕ) (x : List ℕ) → (t ≡ 0x02) ⊎ (t ≡ 0x0d) → k (tag t) x ≡ refuses wrong_type
    by_tag t x (inl e) = rw e (bytes x)
    by_tag t x (inr e) = rw e (text x)
wants_value k field_due bytes text named of_row = tt
wants_value k (name_due s) bytes text named of_row = named s
wants_value k (row_due ks) bytes text named of_row = of_row ks

key_asked : {X : Type 0} (k : Seen → named.Reader X) (c : Bool) (t : ℕ) (y : List ℕ) (e : Error) → (c ≡ true → k (tag t) y ≡ refuses wrong_type)
    → and_then nothing_at (cond c (named.give (tag t)) (named.refuse (DeInvalidStartByte MapKey t)) y) ≡ refuses e
    → and_then k (cond c (named.give (tag t)) (named.refuse (DeInvalidStartByte MapKey t)) y) ≡ refuses e
key_asked k false t y e is h = same_name (DeInvalidStartByte MapKey t) e h
key_asked k true t y e is h = is refl ∙ same_name wrong_type e h

-- the refusal where no value is due is that of each kind of value
pub no_value_asked : {X : Type 0} (k : Seen → named.Reader X) (o : ℕ) (d : Due) (x : List ℕ) (e : Error) → (IsValueDue d → ⊥) → WantsValue k d
    → asked nothing_at o d x ≡ refuses e → asked k o d x ≡ refuses e
no_value_asked k o nothing_due x e none wants h = same_name (nothing_here o) e h
no_value_asked k o node_due x e none wants h = absurd (none tt)
no_value_asked k o key_due [] e none wants h = same_name named.eof e h
no_value_asked k o key_due (t ∷ y) e none wants h = key_asked k (is_key_tag t) t y e (wants t y) h
no_value_asked k o field_due x e none wants h = absurd (none tt)
no_value_asked k o (name_due s) x e none wants h = wants x ∙ same_name wrong_type e h
no_value_asked k o (row_due ks) x e none wants h = wants x ∙ same_name wrong_type e h

-- and so is the refusal of its tag
pub value_asked : {X : Type 0} (k : Seen → named.Reader X) (o : ℕ) (d : Due) (x : List ℕ) (e : Error) → WantsValue k d → value_here o d x ≡ refuses e
    → asked k o d x ≡ refuses e
value_asked k o nothing_due x e wants h = no_value_asked k o nothing_due x e (λ u. u) wants h
value_asked k o node_due [] e wants h = same_name named.eof e h
value_asked k o node_due (t ∷ y) e wants h = absurd cc
value_asked k o key_due x e wants h = no_value_asked k o key_due x e (λ u. u) wants h
value_asked k o field_due [] e wants h = same_name named.eof e h
value_asked k o field_due (t ∷ y) e wants h = absurd cc
value_asked k o (name_due s) x e wants h = no_value_asked k o (name_due s) x e (λ u. u) wants h
value_asked k o (row_due ks) x e wants h = no_value_asked k o (row_due ks) x e (λ u. u) wants h

-- the same as the refusal of a call that wants a front which k reads
pub value_refused : {X : Type 0} (needs : Needs) (k : Seen → named.Reader X) (W : Format) (e : Error) (s : State) (b : Window) → WantsValue k s.due
    → ((z : Seen) → Clean (k z)) → ((text : List ℕ) → W text → (v : X) × steps.Passes (asked k s.opened s.due) v text)
    → Fails e s.source b → NamesBy bare (value_here s.opened s.due) e s.source → RefusesFront needs W (NamesDue needs k e s) e s.source b
value_refused needs k W e s b wants clean passes fails said =
    front_refused needs (asked k s.opened s.due) (value_here s.opened s.due) W e s.source b
    (λ f x p. value_asked k s.opened s.due x f wants p) (clean_asked k clean s.opened s.due) passes fails said

-- a tag of another kind as the refusal of such a call
pub stray_refused : {X : Type 0} (needs : Needs) (k : Seen → named.Reader X) (W : Format) (t : ℕ) (s : State) (b c : Window) → IsTagged s.due
    → ((z : Seen) → Clean (k z)) → ((y : List ℕ) → k (tag t) y ≡ refuses wrong_type)
    → ((text : List ℕ) → W text → (v : X) × steps.Passes (asked k s.opened s.due) v text)
    → Peeks s.source b t → c ≡ closed b → RefusesFront needs W (NamesDue needs k (stray_at s.due t) s) (stray_at s.due t) s.source c
stray_refused needs k W t s b c is clean other passes peeks same =
    front_refused needs (asked k s.opened s.due) (asked k s.opened s.due) W (stray_at s.due t) s.source c
    (λ f x p. p) (clean_asked k clean s.opened s.due) passes (stray_fails s.due t s.source b c peeks same) (stray_names k t s b is peeks other)
