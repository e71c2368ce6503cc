-- What the words of events tell, one event after the other.
use Rattle.std.proofs.Common.{◌≡◌, ◌<◌, ◌+◌, ◌-◌, ◌/◌, ◌%◌, ◌^◌, nat_le, ℕ, Bool, true, List, [], ◌∷◌, ◌++◌, length, Option, Some, None, append-nil, append_assoc, refl, sym, ap, subst, ◌∙◌, arith}
use Rattle.bser_format.specs.Canonical.{least_count}
use Rattle.bser_events.specs.Events as told
use Rattle.bser_events.specs.Events.{Event}
use Rattle.bser_c.specs.Parts.{joined, part, part_of, parts, string_part}
use Rattle.bser_c.specs.Tape as tapes
use Rattle.bser_c.specs.Tape.{AreWordsOf, AreWordsOfAll, IsSecond, StandsAt, first_word, head_of}

-- ---- the parts of some words, before others

-- the words tell this, and what stands behind them tells what it does alone
abbrev pub Says : List ℕ → List ℕ → List ℕ → Type 0
Says strings words body = (rest : List ℕ) → parts strings (words ++ rest) ≡ joined (Some body) (parts strings rest)

joined_nothing : (o : Option (List ℕ)) → o ≡ joined (Some []) o
joined_nothing None = refl
joined_nothing (Some x) = refl

pub joined_assoc : (x y : List ℕ) (o : Option (List ℕ)) → joined (Some x) (joined (Some y) o) ≡ joined (Some (x ++ y)) o
joined_assoc x y None = refl
joined_assoc x y (Some z) = ap (λ w. Some w) (sym (append_assoc x y z))

pub says_nothing : (strings : List ℕ) → Says strings [] []
says_nothing strings rest = joined_nothing (parts strings rest)

pub says_both : (strings a b x y : List ℕ) → Says strings a x → Says strings b y → Says strings (a ++ b) (x ++ y)
says_both strings a b x y p q rest =
    ap (λ w. parts strings w) (append_assoc a b rest) ∙ p (b ++ rest) ∙ ap (λ o. joined (Some x) o) (q rest) ∙ joined_assoc x y (parts strings rest)

pub said : (strings words : List ℕ) (first second : ℕ) (p : List ℕ) → words ≡ first ∷ second ∷ [] → part strings first second ≡ Some p → Says strings words p
said strings words first second p are is rest = ap (λ w. parts strings (w ++ rest)) are ∙ ap (λ o. joined o (parts strings rest)) is

-- all the words
pub says_all : (strings words body : List ℕ) → Says strings words body → parts strings words ≡ Some body
says_all strings words body h = ap (λ w. parts strings w) (sym (append-nil words)) ∙ h [] ∙ ap (λ w. Some w) (append-nil body)

-- ---- the words of events

-- the words of an event, and those of the others
pub record First (strings : List ℕ) (e : Event) (es : List Event) (words : List ℕ) : Type 0 where
  pub these : List ℕ
  pub rest : List ℕ
  pub whole : words ≡ these ++ rest
  pub first : AreWordsOf strings e these
  pub others : AreWordsOfAll strings es rest

pub first_of_all : (strings : List ℕ) (e : Event) (es : List Event) (words : List ℕ) → AreWordsOfAll strings (e ∷ es) words → First strings e es words
first_of_all strings _ _ words (tapes.more e es these rest first others) = record { these = these; rest = rest; whole = refl; first = first; others = others }

pub no_words : (strings words : List ℕ) → AreWordsOfAll strings [] words → words ≡ []
no_words strings words tapes.none = refl

-- the words of some events, and those of the events after them
pub record Split (strings : List ℕ) (es fs : List Event) (words : List ℕ) : Type 0 where
  pub front : List ℕ
  pub back : List ℕ
  pub whole : words ≡ front ++ back
  pub first : AreWordsOfAll strings es front
  pub second : AreWordsOfAll strings fs back

pub split : (strings : List ℕ) (es fs : List Event) (words : List ℕ) → AreWordsOfAll strings (es ++ fs) words → Split strings es fs words
split strings [] fs words h = record { front = []; back = words; whole = refl; first = tapes.none; second = h }
split strings (e ∷ es) fs words h =
    let u = first_of_all strings e (es ++ fs) words h in
    let r = split strings es fs u.rest u.others in
    record {
      front = u.these ++ r.front;
      back = r.back;
      whole = u.whole ∙ ap (λ w. u.these ++ w) r.whole ∙ sym (append_assoc u.these r.front r.back);
      first = tapes.more e es u.these r.front u.first r.first;
      second = r.second;
    }

-- what two words tell, whatever the mark of a key is
abbrev pub IsPart : List ℕ → Event → List ℕ → Type 0
IsPart strings e p = (mark : Bool) (second : ℕ) → IsSecond strings e second → part strings (head_of mark e) second ≡ Some p

pub event_says : (strings : List ℕ) (e : Event) (words p : List ℕ) → IsPart strings e p → AreWordsOf strings e words → Says strings words p
event_says strings e words p is a = said strings words (head_of a.is_text e) a.second p a.are (is a.is_text a.second a.place)

pub one_says : (strings : List ℕ) (e : Event) (words p : List ℕ) → IsPart strings e p → AreWordsOfAll strings (e ∷ []) words → Says strings words p
one_says strings e words p is all =
    let u = first_of_all strings e [] words all in
    let alone : words ≡ u.these = u.whole ∙ ap (λ w. u.these ++ w) (no_words strings u.rest u.others) ∙ append-nil u.these in
    subst (λ w. Says strings w p) (sym alone) (event_says strings e u.these p is u.first)

-- ---- first words

pub part_at : (strings : List ℕ) (tag count second : ℕ) → tag < 256 → count < 2 ^ 56 - 1 → part strings (first_word tag count) second ≡ part_of strings second count tag
part_at strings tag count second t c =
    let q : first_word tag count / 256 ≡ count = omega (arith, t, c) in
    let r : first_word tag count % 256 ≡ tag = omega (arith, t, c) in
    ap (λ k. part_of strings second k (first_word tag count % 256)) q ∙ ap (λ k. part_of strings second count k) r

-- a string that stands there
pub string_at : (strings : List ℕ) (tag : ℕ) (s : List ℕ) (at : ℕ) → StandsAt strings at s → string_part strings tag (length s) at ≡ Some (tag ∷ (least_count (length s) ++ s))
string_at strings tag s at h =
    let within : nat_le (at + length s) (length strings) ≡ true = grind (arith, h.within) in
    rw within (ap (λ x. Some (tag ∷ (least_count (length s) ++ x))) h.same)

-- ---- containers

close_is : (strings : List ℕ) → IsPart strings told.close []
close_is strings mark second h = refl

-- the words of a container: its head's, its parts', and its end's
pub record Closed (strings : List ℕ) (begin : Event) (es : List Event) (words : List ℕ) : Type 0 where
  pub head : List ℕ
  pub inner : List ℕ
  pub tail : List ℕ
  pub whole : words ≡ head ++ (inner ++ tail)
  pub opens : AreWordsOf strings begin head
  pub inside : AreWordsOfAll strings es inner
  pub closes : AreWordsOfAll strings (told.close ∷ []) tail

pub closed : (strings : List ℕ) (begin : Event) (es : List Event) (words : List ℕ) → AreWordsOfAll strings (begin ∷ (es ++ told.close ∷ [])) words → Closed strings begin es words
closed strings begin es words all =
    let u = first_of_all strings begin (es ++ told.close ∷ []) words all in
    let s = split strings es (told.close ∷ []) u.rest u.others in
    record { head = u.these; inner = s.front; tail = s.back; whole = u.whole ∙ ap (λ w. u.these ++ w) s.whole; opens = u.first; inside = s.first; closes = s.second }

pub closed_says : (strings : List ℕ) (begin : Event) (es : List Event) (words p body : List ℕ) (c : Closed strings begin es words) → IsPart strings begin p → Says strings c.inner body → Says strings words (p ++ body)
closed_says strings begin es words p body c is h =
    let inside : Says strings (c.inner ++ c.tail) (body ++ []) = says_both strings c.inner c.tail body [] h (one_says strings told.close c.tail [] (close_is strings) c.closes) in
    let whole : Says strings (c.head ++ (c.inner ++ c.tail)) (p ++ (body ++ [])) = says_both strings c.head (c.inner ++ c.tail) p (body ++ []) (event_says strings begin c.head p is c.opens) inside in
    subst (λ w. Says strings w (p ++ body)) (sym c.whole) (subst (λ b. Says strings (c.head ++ (c.inner ++ c.tail)) (p ++ b)) (append-nil body) whole)
