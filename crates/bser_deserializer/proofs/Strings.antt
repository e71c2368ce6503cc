-- Strings and keys that are due: what was taken, and how they are refused.
use Rattle.std.proofs.Common.{◌≡◌, ◌⊎◌, inl, inr, ℕ, Bool, true, false, cond, ◌||◌, ◌==◌, ◌<◌, ◌≤◌, List, [], ◌∷◌, ◌++◌, length, take, drop, get_or, Some, refl, sym, ap, subst, ◌∙◌, arith, IsUtf8}
use Rattle.std.specs.Prelude.{Result, Ok, Err, MatchResult, is_err}
use Rattle.std.specs.Str.{is_utf8}
use Rattle.std.proofs.lemmas.Bool.{eqb-true}
use Rattle.std.proofs.lemmas.Str.{IsUtf8-from_is_utf8}
use Rattle.bser_format.specs.Grammar.{Bytes, SpellsCount, ◌then◌}
use Rattle.bser_format.specs.ReadsScalars.{reads_slice, reads_string}
use Rattle.bser_format.specs.Expected.{Due, nothing_due, node_due, key_due, field_due, name_due, row_due}
use Rattle.bser_format.specs.declared.errors.Error.{Error}
use Rattle.bser_format.specs.Named.{Answer, Reader, reads, refuses, refuse, and_then, ◌>>=◌, eof, front, string, utf8, utf8_wanted, string_after, give}
use Rattle.bser_format.specs.DueReaders.{Seen, tag, is_key_tag, seen, asked, bytes_at, text_at, nothing_at, stray_at, wrong_type}
use Rattle.bser_format.specs.Asks.{done, asks_bytes, asks_string}
use Rattle.bser_source.specs.Window.{Window, Filled, Peeks, Took, closed, consumed}
use Rattle.bser_source.proofs.Windows.{took_by}
use Rattle.bser_bunser.specs.Names.{Names, RefusedAs}
use Rattle.bser_bunser.specs.Refusal.{Fails, failures_by}
use Rattle.bser_bunser.specs.Tagged.{SpellsCounted}
use Rattle.bser_bunser.specs.Tokens.{tag_of_string}
use Rattle.bser_bunser.proofs.Readers.{string_there, front_there}
use Rattle.bser_bunser.proofs.Names.{blames_more, blames_untaken, names_taken}
use Rattle.bser_deserializer.specs.Dues.{IsTagged, due_of}
use Rattle.bser_deserializer.specs.State.{State, refused}
use Rattle.bser_deserializer.specs.Reading.{NamesDue, Refuses, bare}
use Rattle.bser_deserializer.specs.Askings.{asking_bytes, asking_string}
use Rattle.bser_deserializer.specs.declared.due.Due as code
use Rattle.bser_deserializer.specs.declared.due.Due.TheVariants as dues
use Rattle.bser_deserializer.proofs.Refusals.{names_any, names_by_more, fails_closed, fails_untaken}
use Rattle.bser_deserializer.proofs.Dues.{past_names}
use Rattle.bser_deserializer.proofs.Clean.{clean_bytes, clean_texts}
use Rattle.bser_deserializer.specs.Strings.{SpellsUnder, StringDue, TookBytes}
use Rattle.bser_deserializer.proofs.Tags.{asking_refused, same_name, failed_names, stray_names, stray_fails}

-- ---- the first byte

first_alone : (held : List ℕ) → 0 < length held → get_or held 0 0 ∷ [] ≡ take 1 held
first_alone [] some = absurd (omega (arith, some))
first_alone (x ∷ held) some = refl

-- the first buffered byte was taken
pub took_first : (held : List ℕ) (a b c : Window) → held ≡ b.buffered → Filled 1 a b → c ≡ consumed 1 b → Took a c (get_or held 0 0 ∷ [])
took_first held a b c same filled after =
    took_by 1 a b c (get_or held 0 0 ∷ []) filled after (ap (λ l. get_or l 0 0 ∷ []) same ∙ first_alone b.buffered (omega (arith, filled.enough)))

-- the first buffered byte was seen
pub peeks_first : (held : List ℕ) (a b : Window) → held ≡ b.buffered → Filled 1 a b → Peeks a b (get_or held 0 0)
peeks_first held a b same filled = record { filled = filled; next = first b.buffered (omega (arith, filled.enough)) ∙ ap (λ l. get_or l 0 0 ∷ drop 1 b.buffered) (sym same) }
  where
    first : (l : List ℕ) → 0 < length l → l ≡ get_or l 0 0 ∷ drop 1 l
    first [] some = absurd (omega (arith, some))
    first (x ∷ l) some = refl

-- ---- a string after its tag

-- the two tags of strings
pub key_tags : (t : ℕ) → is_key_tag t ≡ true → (t ≡ 0x02) ⊎ (t ≡ 0x0d)
key_tags t = go (t == 0x02) (t == 0x0d) refl refl
  where
    go : (a b : Bool) → (t == 0x02) ≡ a → (t == 0x0d) ≡ b → a || b ≡ true → (t ≡ 0x02) ⊎ (t ≡ 0x0d)
    go true b p q h = inl (eqb-true t 0x02 p)
    go false true p q h = inr (eqb-true t 0x0d q)
    go false false p q h = absurd cc

-- another byte
pub other_after : (e : Error) (t : ℕ) (x : List ℕ) → is_key_tag t ≡ false → string_after e t x ≡ refuses e
other_after e t x = go (t == 0x02) (t == 0x0d)
  where
    go : (a b : Bool) → a || b ≡ false → cond a string (cond b (string >>= utf8) (refuse e)) x ≡ refuses e
    go true b h = absurd cc
    go false true h = absurd cc
    go false false h = refl

-- what is refused of its length and bytes
pub refused_after : (e f : Error) (t : ℕ) (x : List ℕ) → is_key_tag t ≡ true → string x ≡ refuses f → string_after e t x ≡ refuses f
refused_after e f t x is refused = go (t == 0x02) (t == 0x0d) is
  where
    go : (a b : Bool) → a || b ≡ true → cond a string (cond b (string >>= utf8) (refuse e)) x ≡ refuses f
    go true b h = refused
    go false true h = ap (and_then utf8) refused
    go false false h = absurd cc

-- bytes that are no text are refused where one is wanted
no_text : (s x : List ℕ) → ¬ (IsUtf8 s) → utf8 s x ≡ refuses utf8_wanted
no_text s x bad = go (is_utf8 s) refl
  where
    go : (b : Bool) → is_utf8 s ≡ b → cond b (give s) (refuse utf8_wanted) x ≡ refuses utf8_wanted
    go true e = absurd (bad (IsUtf8-from_is_utf8 s e))
    go false e = refl

-- bytes that are no text, where one is wanted after either tag
pub no_text_after : (e : Error) (t : ℕ) (s text x : List ℕ) → is_key_tag t ≡ true → SpellsCounted s text → ¬ (IsUtf8 s) → (string_after e t >>= utf8) (text ++ x) ≡ refuses utf8_wanted
no_text_after e t s text x is spelled bad = go (t == 0x02) (t == 0x0d) is
  where
    checked : (string >>= utf8) (text ++ x) ≡ refuses utf8_wanted
    checked = ap (and_then utf8) (string_there s text spelled x) ∙ no_text s x bad

    go : (a b : Bool) → a || b ≡ true → (cond a string (cond b (string >>= utf8) (refuse e)) >>= utf8) (text ++ x) ≡ refuses utf8_wanted
    go true b h = checked
    go false true h = ap (and_then utf8) checked
    go false false h = absurd cc

-- ---- what is due, and its tag

-- a value, a field or a key has a tag
pub tagged : (ks : List (List ℕ)) (place : ℕ) (d : code.Due) → (d ≡ dues.Node) ⊎ ((d ≡ dues.Field) ⊎ (d ≡ dues.Key)) → IsTagged (due_of ks place d)
tagged ks place d (inl e) = subst (λ z. IsTagged (due_of ks place z)) (sym e) tt
tagged ks place d (inr (inl e)) = subst (λ z. IsTagged (due_of ks place z)) (sym e) tt
tagged ks place d (inr (inr e)) = subst (λ z. IsTagged (due_of ks place z)) (sym e) tt

-- no byte is left
none_asked : {X : Type 0} (k : Seen → Reader X) (o : ℕ) (d : Due) (x : List ℕ) (e : Error) → IsTagged d → front 1 x ≡ refuses e → asked k o d x ≡ refuses e
none_asked k o nothing_due x e is h = absurd is
none_asked k o node_due [] e is h = same_name eof e h
none_asked k o key_due [] e is h = same_name eof e h
none_asked k o field_due [] e is h = same_name eof e h
none_asked k o d (t ∷ y) e is h = absurd (let some : front 1 (t ∷ y) ≡ reads (t ∷ []) y = front_there 1 (t ∷ []) refl y in cc)
none_asked k o (name_due n) x e is h = absurd is
none_asked k o (row_due ks) x e is h = absurd is

-- a string's tag is one where a value, a field or a key is due
key_seen : (o : ℕ) (d : Due) (t : ℕ) (y : List ℕ) → IsTagged d → is_key_tag t ≡ true → seen o d (t ∷ y) ≡ reads (tag t) y
key_seen o d t y is h = elim (key_tags t h) [
  | inl e ↦ subst (λ z. seen o d (z ∷ y) ≡ reads (tag z) y) (sym e) (bytes d is)
  | inr e ↦ subst (λ z. seen o d (z ∷ y) ≡ reads (tag z) y) (sym e) (texts d is)
]
  where
    bytes : (d : Due) → IsTagged d → seen o d (0x02 ∷ y) ≡ reads (tag 0x02) y
    bytes nothing_due is = absurd is
    bytes node_due is = refl
    bytes key_due is = refl
    bytes field_due is = refl
    bytes (name_due n) is = absurd is
    bytes (row_due ks) is = absurd is

    texts : (d : Due) → IsTagged d → seen o d (0x0d ∷ y) ≡ reads (tag 0x0d) y
    texts nothing_due is = absurd is
    texts node_due is = refl
    texts key_due is = refl
    texts field_due is = refl
    texts (name_due n) is = absurd is
    texts (row_due ks) is = absurd is

-- ---- refusals by a type's name

-- what was taken is refused, for a reason that counts no failure
taken_fails : (e : Error) (a m b : Window) (text : List ℕ) → ((n : ℕ) → failures_by e n ≡ n) → Took a m text → b ≡ closed m → Fails e a b
taken_fails e a m b text none took same =
    fails_untaken e a m b text took (fails_closed e m b (λ f. absurd (let w = took.failed in cc)) none same)

-- the name where bytes are asked for is that of their type
bytes_refused : (e : Error) (old new : State) → Fails e old.source new.source → NamesDue bare bytes_at e old → Refuses reads_slice (Some asking_bytes) bare e old new
bytes_refused e old new fails named =
    asking_refused bare reads_slice asking_bytes (asked bytes_at old.opened old.due) e old new (λ f x p. ap (and_then done) p) (clean_bytes old.opened old.levels old.due) fails named

-- what refuses bytes refuses a text
pub text_asked : (o n : ℕ) (d : Due) (x : List ℕ) (e : Error) → asks_bytes o n d x ≡ refuses e → asks_string o n d x ≡ refuses e
text_asked o n d x e = of_seen (seen o d x)
  where
    of_bytes : (a : Answer (List ℕ)) → and_then done a ≡ refuses e → and_then done (and_then utf8 a) ≡ refuses e
    of_bytes (reads s y) h = absurd cc
    of_bytes (refuses f) h = h

    of_seen : (a : Answer Seen) → and_then done (and_then bytes_at a) ≡ refuses e → and_then done (and_then text_at a) ≡ refuses e
    of_seen (reads s y) h = of_bytes (bytes_at s y) h
    of_seen (refuses f) h = h

pub text_refused : (e : Error) (old new : State) → Refuses reads_slice (Some asking_bytes) bare e old new → Refuses reads_string (Some asking_string) bare e old new
text_refused e old new u =
    asking_refused bare reads_string asking_string (asks_bytes old.opened old.levels old.due) e old new
    (λ f x p. text_asked old.opened old.levels old.due x f p) (clean_texts old.opened old.levels old.due) u.fails u.names

-- ---- refusals where a tag is due

-- no byte came
pub look_refused : (e : Error) (a b : State) → IsTagged a.due → Fails e a.source b.source → Names (front 1) e a.source → Refuses reads_slice (Some asking_bytes) bare e a b
look_refused e a b is fails h =
    bytes_refused e a b fails
    (names_any bare (asked bytes_at a.opened a.due) e a.source
    (blames_more (RefusedAs (front 1)) (RefusedAs (asked bytes_at a.opened a.due)) e a.source (λ f x p. none_asked bytes_at a.opened a.due x f is p) h))

-- another tag
pub other_refused : (held : List ℕ) (a b : State) (m : Window) → IsTagged a.due → held ≡ m.buffered → Filled 1 a.source m → is_key_tag (get_or held 0 0) ≡ false → b.source ≡ closed m
    → Refuses reads_slice (Some asking_bytes) bare (stray_at a.due (get_or held 0 0)) a b
other_refused held a b m is same filled other state =
    let t : ℕ = get_or held 0 0 in
    let peeks = peeks_first held a.source m same filled in
    bytes_refused (stray_at a.due t) a b (stray_fails a.due t a.source m b.source peeks state)
    (stray_names bytes_at t a m is peeks (λ y. other_after wrong_type t y other))

-- its length or its bytes
pub rest_refused : (t : ℕ) (e : Error) (a b : State) (m : Window) → IsTagged a.due → is_key_tag t ≡ true → Took a.source m (t ∷ []) → Fails e m b.source → Names string e m
    → Refuses reads_slice (Some asking_bytes) bare e a b
rest_refused t e a b m is key took fails h =
    bytes_refused e a b (fails_untaken e a.source m b.source (t ∷ []) took fails)
    (names_any bare (asked bytes_at a.opened a.due) e a.source
    (blames_untaken (RefusedAs string) (RefusedAs (asked bytes_at a.opened a.due)) e a.source m (t ∷ [])
    (λ f x p. ap (and_then bytes_at) (key_seen a.opened a.due t x is key) ∙ refused_after wrong_type f t x key p) took h))

-- ---- refusals of a row's key

-- a key is due where the code tells so
pub named_only : (ks : List (List ℕ)) (place : ℕ) (d : code.Due) (k : List ℕ) → due_of ks place d ≡ name_due k → d ≡ dues.Name
named_only ks place dues.Nothing k e = absurd cc
named_only ks place dues.Node k e = absurd cc
named_only ks place dues.Key k e = absurd cc
named_only ks place dues.Field k e = absurd cc
named_only ks place dues.Name k e = refl
named_only ks place dues.Row k e = absurd cc

-- past the keys none is
pub past_no_name : (ks : List (List ℕ)) (place : ℕ) (d : code.Due) (k : List ℕ) → length ks ≤ place → due_of ks place d ≡ name_due k → ⊥
past_no_name ks place d k le e =
    let is = named_only ks place d k e in
    let none : due_of ks place d ≡ nothing_due = ap (due_of ks place) is ∙ past_names place ks le in
    cc

-- no key is due
pub no_name_refused : (e : Error) (a b : State) → (IsTagged a.due → ⊥) → (((k : List ℕ) → a.due ≡ name_due k → ⊥) ⊎ (a.source.failed ≡ true)) → Fails e a.source b.source → NamesDue bare nothing_at e a
    → Refuses reads_slice (Some asking_bytes) bare e a b
no_name_refused e a b untagged (inl unnamed) fails named =
    bytes_refused e a b fails
    (names_by_more bare (asked bytes_at a.opened a.due) (asked nothing_at a.opened a.due) e a.source (λ f x p. at f a.opened a.due x untagged unnamed p) named)
  where
    at : (e : Error) (o : ℕ) (d : Due) (x : List ℕ) → (IsTagged d → ⊥) → ((k : List ℕ) → d ≡ name_due k → ⊥) → asked nothing_at o d x ≡ refuses e → asked bytes_at o d x ≡ refuses e
    at e o nothing_due x untagged unnamed h = same_name _ e h
    at e o node_due x untagged unnamed h = absurd (untagged tt)
    at e o key_due x untagged unnamed h = absurd (untagged tt)
    at e o field_due x untagged unnamed h = absurd (untagged tt)
    at e o (name_due k) x untagged unnamed h = absurd (unnamed k refl)
    at e o (row_due ks) x untagged unnamed h = same_name wrong_type e h
no_name_refused e a b untagged (inr failed) fails named = bytes_refused e a b fails (failed_names bare (asked bytes_at a.opened a.due) e a.source b.source failed fails)

-- ---- bytes that are not UTF-8

text_tag : (m : Bool) → is_key_tag (tag_of_string m) ≡ true
text_tag true = refl
text_tag false = refl

counted : (s b : List ℕ) → (SpellsCount (length s) then Bytes s) b → SpellsCounted s b
counted s b h = record { number = h.front; count = h.first; whole = h.whole ∙ ap (λ l. h.front ++ l) h.second }

-- a string under its tag, where it is due
under_asked : {X : Type 0} (k : Seen → Reader X) (o : ℕ) (d : Due) (m : Bool) (s b x : List ℕ) (e : Error) → IsTagged d → SpellsUnder m s b
    → ((rest : List ℕ) → SpellsCounted s rest → k (tag (tag_of_string m)) (rest ++ x) ≡ refuses e) → asked k o d (b ++ x) ≡ refuses e
under_asked k o d m s b x e is h refused =
    ap (λ l. asked k o d (l ++ x)) (h.whole ∙ ap (λ l. l ++ h.rest) h.first) ∙ ap (and_then k) (key_seen o d (tag_of_string m) (h.rest ++ x) is (text_tag m)) ∙ refused h.rest (counted s h.rest h.second)

bad_bytes : (o : ℕ) (d : Due) (s b x : List ℕ) → StringDue d true s b → ¬ (IsUtf8 s) → asked bytes_at o d (b ++ x) ≡ refuses utf8_wanted
bad_bytes o nothing_due s b x h bad = absurd h
bad_bytes o (name_due k) s b x h bad = absurd (let e = h.0.1 in cc)
bad_bytes o (row_due ks) s b x h bad = absurd h
bad_bytes o node_due s b x h bad = under_asked bytes_at o node_due true s b x utf8_wanted tt h (λ rest c. ap (and_then utf8) (string_there s rest c x) ∙ no_text s x bad)
bad_bytes o key_due s b x h bad = under_asked bytes_at o key_due true s b x utf8_wanted tt h (λ rest c. ap (and_then utf8) (string_there s rest c x) ∙ no_text s x bad)
bad_bytes o field_due s b x h bad = under_asked bytes_at o field_due true s b x utf8_wanted tt h (λ rest c. ap (and_then utf8) (string_there s rest c x) ∙ no_text s x bad)

bad_text : (o : ℕ) (d : Due) (m : Bool) (s b x : List ℕ) → StringDue d m s b → ¬ (IsUtf8 s) → asked text_at o d (b ++ x) ≡ refuses utf8_wanted
bad_text o nothing_due m s b x h bad = absurd h
bad_text o (row_due ks) m s b x h bad = absurd h
bad_text o node_due m s b x h bad = under_asked text_at o node_due m s b x utf8_wanted tt h (λ rest c. no_text_after wrong_type (tag_of_string m) s rest x (text_tag m) c bad)
bad_text o key_due m s b x h bad = under_asked text_at o key_due m s b x utf8_wanted tt h (λ rest c. no_text_after wrong_type (tag_of_string m) s rest x (text_tag m) c bad)
bad_text o field_due m s b x h bad = under_asked text_at o field_due m s b x utf8_wanted tt h (λ rest c. no_text_after wrong_type (tag_of_string m) s rest x (text_tag m) c bad)
bad_text o (name_due k) m s b x h bad = ap (λ l. utf8 l (b ++ x)) (sym h.0.0) ∙ no_text s (b ++ x) bad

-- bytes under a text's tag
pub bytes_not_utf8 : (a m b : State) (is_text : Bool) (s : List ℕ) → TookBytes a m is_text s → is_text ≡ true → ¬ (IsUtf8 s) → b ≡ refused m → Refuses reads_slice (Some asking_bytes) bare utf8_wanted a b
bytes_not_utf8 a m b is_text s took under bad state =
    let due : StringDue a.due true s took.text = subst (λ i. StringDue a.due i s took.text) under took.filled in
    bytes_refused utf8_wanted a b (taken_fails utf8_wanted a.source m.source b.source took.text (λ n. refl) took.took (ap (λ z. z.source) state))
    (names_any bare (asked bytes_at a.opened a.due) utf8_wanted a.source
    (names_taken (asked bytes_at a.opened a.due) utf8_wanted a.source m.source took.text (λ x. bad_bytes a.opened a.due s took.text x due bad) took.took))

-- bytes under either tag, or a key, where a text is asked for
pub text_not_utf8 : (a m b : State) (is_text : Bool) (s : List ℕ) → TookBytes a m is_text s → ¬ (IsUtf8 s) → b ≡ refused m → Refuses reads_string (Some asking_string) bare utf8_wanted a b
text_not_utf8 a m b is_text s took bad state =
    let r = asked text_at a.opened a.due in
    asking_refused bare reads_string asking_string r utf8_wanted a b (λ f x p. ap (and_then done) p) (clean_texts a.opened a.levels a.due)
    (taken_fails utf8_wanted a.source m.source b.source took.text (λ n. refl) took.took (ap (λ z. z.source) state))
    (names_any bare r utf8_wanted a.source
    (names_taken r utf8_wanted a.source m.source took.text (λ x. bad_text a.opened a.due is_text s took.text x took.filled bad) took.took))

-- what a test of UTF-8 tells
pub told_bad : {A E : Type 0} (r : Result A E) (b c : List ℕ) (P : A → Type 0) (Q : E → Type 0) → b ≡ c → MatchResult r (λ s. P s × IsUtf8 b) (λ e. ¬ (IsUtf8 b) × Q e) → is_err r ≡ true → ¬ (IsUtf8 c)
told_bad (Ok s) b c P Q same told err = absurd cc
told_bad (Err e) b c P Q same told err = λ good. told.0 (subst IsUtf8 (sym same) good)

pub told_good : {A E : Type 0} (r : Result A E) (b c : List ℕ) (P : A → Type 0) (Q : E → Type 0) → b ≡ c → MatchResult r (λ s. P s × IsUtf8 b) (λ e. ¬ (IsUtf8 b) × Q e) → is_err r ≡ false → IsUtf8 c
told_good (Ok s) b c P Q same told err = subst IsUtf8 same told.1
told_good (Err e) b c P Q same told err = absurd cc
