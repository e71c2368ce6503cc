-- A text of one character.
use Rattle.std.proofs.Common.{◌≡◌, ℕ, List, [], ◌∷◌, ◌++◌, drop, Option, Some, None, refl, sym, ap, ◌∙◌, IsUtf8}
use Rattle.std.specs.Prelude.{option_map, option_and_then, chars, slice_get, pos, encode_utf8}
use Rattle.std.proofs.lemmas.Str.{chars_past_char}
use Rattle.bser_format.specs.Tree.{Tree}
use Rattle.bser_format.specs.Content.{Content, Meaning, byte_list, number, one}
use Rattle.bser_format.specs.Expected.{Due}
use Rattle.bser_format.specs.ReadsScalars.{utf8_of, reads_string, reads_char, one_char}
use Rattle.bser_format.specs.declared.errors.Error.{Error}
use Rattle.bser_format.specs.Named.{Answer, Reader, reads, refuses, and_then, ◌>>=◌, give, refuse}
use Rattle.bser_format.specs.DueReaders.{asked, text_at, wrong_type}
use Rattle.bser_format.specs.Clauses.{after_a_refusal}
use Rattle.bser_format.specs.Asks as asks
use Rattle.bser_format.specs.Asks.{done, asks_string, asks_char}
use Rattle.bser_format.specs.TypeLaws.{Passes}
use Rattle.bser_format.proofs.Dues.{passes_by}
use Rattle.bser_format.proofs.Strings.{texts_handled}
use Rattle.bser_deserializer.specs.State.{State, refused}
use Rattle.bser_deserializer.specs.Reading.{Answers, Refuses, IsRefusal, bare, copying}
use Rattle.bser_deserializer.specs.Askings.{asking_string, asking_char}
use Rattle.bser_deserializer.proofs.Clean.{Clean, clean_texts, clean_give, clean_refuse}
use Rattle.bser_deserializer.proofs.Tags.{asking_refused}
use Rattle.bser_types.proofs.Taken.{taken_refused}

-- ---- how a character is refused

clean_one : (cs : List ℕ) → Clean (asks.one_char cs)
clean_one [] = clean_refuse wrong_type tt
clean_one (c ∷ []) = clean_give tt
clean_one (c ∷ d ∷ cs) = clean_refuse wrong_type tt

clean_chars : (o n : ℕ) (d : Due) → Clean (asks_char o n d)
clean_chars o n d b e h = go (asked text_at o d b) refl h
  where
    go : (a : Answer (List ℕ)) → asked text_at o d b ≡ a → and_then (λ s. asks.one_char (chars s)) a ≡ refuses e → IsRefusal e
    go (reads s y) p q = clean_one (chars s) y e q
    go (refuses f) p q = clean_texts o n d b e (ap (and_then done) p ∙ q)

text_first : (a : Answer (List ℕ)) (e : Error) → and_then done a ≡ refuses e → and_then (λ s. asks.one_char (chars s)) a ≡ refuses e
text_first (reads s y) e h = absurd cc
text_first (refuses f) e h = h

-- what refuses a text refuses a character
pub char_refused : (e : Error) (a b : State) → Refuses reads_string (Some asking_string) bare e a b → Refuses reads_char (Some asking_char) copying e a b
char_refused e a b u =
    asking_refused copying reads_char asking_char (asks_string a.opened a.levels a.due) e a b (λ f x p. text_first (asked text_at a.opened a.due x) f p)
    (clean_chars a.opened a.levels a.due) u.fails u.names

-- ---- a text that is not one character

-- what another number of characters than one holds
abbrev others : List ℕ → Option Content
others (c ∷ []) = None
others _ = Some one

-- any text but one of one character
abbrev pass_others : List ℕ → Reader Unit
pass_others (c ∷ []) = refuse wrong_type
pass_others _ = give tt

abbrev reads_others : Meaning
reads_others u = option_and_then (λ s. others (chars s)) (utf8_of u)

others_hold : (o : Option (List ℕ)) (c : Content) → option_and_then (λ s. others (chars s)) o ≡ Some c → (s : List ℕ) × (o ≡ Some s) × ((y : List ℕ) → pass_others (chars s) y ≡ reads tt y)
others_hold None c e = absurd cc
others_hold (Some s) c e = (s, refl, at (chars s) e)
  where
    at : (cs : List ℕ) → others cs ≡ Some c → (y : List ℕ) → pass_others cs y ≡ reads tt y
    at [] k y = refl
    at (d ∷ []) k y = absurd cc
    at (d ∷ z ∷ cs) k y = refl

others_pass : Passes (λ o n d. asked text_at o d >>= λ s. pass_others (chars s)) reads_others
others_pass = passes_by (texts_handled (λ s. pass_others (chars s)) reads_others (λ u c r. others_hold (utf8_of u) c r))

others_asked : (a : Answer (List ℕ)) (x : List ℕ) → and_then (λ s. pass_others (chars s)) a ≡ reads tt x → and_then (λ s. asks.one_char (chars s)) a ≡ refuses wrong_type
others_asked (refuses f) x h = absurd cc
others_asked (reads s y) x h = at (chars s) h
  where
    at : (cs : List ℕ) → pass_others cs y ≡ reads tt x → asks.one_char cs y ≡ refuses wrong_type
    at [] k = refl
    at (c ∷ []) k = absurd cc
    at (c ∷ d ∷ cs) k = refl

no_char : (cs : List ℕ) → one_char cs ≡ None → others cs ≡ Some one
no_char [] e = refl
no_char (c ∷ []) e = absurd cc
no_char (c ∷ d ∷ cs) e = refl

-- a text that was read
text_read : (u : Tree) (c : Content) (s : List ℕ) → reads_string u ≡ Some c → c ≡ byte_list s → one_char (chars s) ≡ None → reads_others u ≡ Some one
text_read u c s e held none = at (utf8_of u) (e ∙ ap Some held)
  where
    at : (o : Option (List ℕ)) → option_map byte_list o ≡ Some (byte_list s) → option_and_then (λ s. others (chars s)) o ≡ Some one
    at None k = absurd cc
    at (Some x) k =
        let same : x ≡ s = cc in
        ap (λ z. others (chars z)) same ∙ no_char (chars s) none

-- a text that was read, and is not one character
pub not_one_char : {A : Type 0} (held : A → List ℕ) (e : Error) (a b d : State) (v : A) → Answers reads_string (λ w c. c ≡ byte_list (held w)) a b v → one_char (chars (held v)) ≡ None
    → e ≡ after_a_refusal b.source.failed wrong_type → d ≡ refused b → Refuses reads_char (Some asking_char) copying e a d
not_one_char held e a b d v h none reason state =
    taken_refused copying reads_char asking_char a b d h.text e wrong_type (clean_chars a.opened a.levels a.due) h.took reason (ap (λ (t : State). t.source) state)
    (λ x. others_asked (asked text_at a.opened a.due (h.text ++ x)) x (others_pass a.opened a.levels a.due h.tree one h.text x h.filled (text_read h.tree h.content (held v) h.read h.held none)))

-- ---- the characters of a text

abbrev pub FirstChar : Option ℕ → List ℕ → Type 0
FirstChar first b = first ≡ slice_get (chars b) 0

no_first : (cs : List ℕ) → None ≡ slice_get cs 0 → cs ≡ []
no_first [] e = refl
no_first (c ∷ cs) e = absurd cc

some_first : (cs : List ℕ) (c : ℕ) → Some c ≡ slice_get cs 0 → cs ≡ c ∷ drop 1 cs
some_first [] c e = absurd cc
some_first (x ∷ cs) c e = let same : x ≡ c = cc in ap (λ y. y ∷ cs) same

pub one_alone : (b left rest : List ℕ) (c : ℕ) → IsUtf8 b → left ≡ b → left ≡ encode_utf8 c ++ rest → FirstChar None rest → Some (number (pos c)) ≡ one_char (chars b)
one_alone b left rest c good same first none =
    let all : chars b ≡ c ∷ chars rest = chars_past_char b rest c good (sym same ∙ first) in
    ap one_char (ap (λ cs. c ∷ cs) (sym (no_first (chars rest) none)) ∙ sym all)

pub more_than_one : (b left rest : List ℕ) (c d : ℕ) → IsUtf8 b → left ≡ b → left ≡ encode_utf8 c ++ rest → FirstChar (Some d) rest → None ≡ one_char (chars b)
more_than_one b left rest c d good same first some =
    let all : chars b ≡ c ∷ chars rest = chars_past_char b rest c good (sym same ∙ first) in
    ap one_char (ap (λ cs. c ∷ cs) (sym (some_first (chars rest) d some)) ∙ sym all)
