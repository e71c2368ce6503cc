-- What a builder of this crate took is a tape.
use Rattle.std.proofs.Common.{◌≡◌, ◌≤◌, ◌<◌, ◌+◌, ◌-◌, ◌*◌, ◌^◌, min, ℕ, Bool, inl, inr, List, [], ◌∷◌, ◌++◌, length, take, drop, length-append, append-nil, append_assoc, refl, sym, ap, subst, ◌∙◌, arith}
use Rattle.std.proofs.lemmas.List.{drop-append-le, drop_all, take-append-le, take_all}
use Rattle.bser_format.specs.Grammar.{Format, ◌then◌, SpellsBytes, SpellsText, SpellsKey}
use Rattle.bser_format.specs.Message.{IsMessage}
use Rattle.bser_format.proofs.GrammarLaws.{one_message}
use Rattle.bser_events.specs.Events as told
use Rattle.bser_events.specs.Events.{Event, events}
use Rattle.bser_events.specs.Places.{SpellsEvent, TakesIn, counted, mark_of, more, none, place_at}
use Rattle.bser_events.specs.declared.event.Place.{Place}
use Rattle.bser_messages.specs.declared.limits.Limits.{Limits}
use Rattle.bser_messages.specs.Told.{BeginsTold}
use Rattle.bser_messages.specs.declared.told.Header.{Header}
use Rattle.bser_c.specs.Builders.{Grew, second_at, words_in}
use Rattle.bser_c.specs.Tape as tapes
use Rattle.bser_c.specs.Tape.{AreWordsOfAll, BeginsWithTape, HasTapeOf, IsSecond, StandsAt, head_of}
use Rattle.bser_c.specs.declared.writing.Tape.{Tape}
use Rattle.bser_c.proofs.Counts.{events_few}

-- ---- places in the input

-- a string that ends a part begins where the part ends, less its length
ends_part : (before front s rest input : List ℕ) (end : ℕ) → input ≡ before ++ ((front ++ s) ++ rest) → end ≡ length before + length (front ++ s) → StandsAt input (end - length s) s
ends_part before front s rest input end whole end_is =
    let n = length (before ++ front) in
    let at : end - length s ≡ n = omega (arith, end_is, length-append front s, length-append before front) in
    let split : input ≡ (before ++ front) ++ (s ++ rest) = whole ∙ ap (λ x. before ++ x) (append_assoc front s rest) ∙ sym (append_assoc before front (s ++ rest)) in
    let past : drop (end - length s) input ≡ s ++ rest = ap (λ k. drop k input) at ∙ ap (λ x. drop n x) split ∙ drop-append-le n (before ++ front) (s ++ rest) (omega arith) ∙ ap (λ x. x ++ (s ++ rest)) (drop_all n (before ++ front) (omega arith)) in
    record {
      within = omega (arith, at, ap length split, length-append (before ++ front) (s ++ rest), length-append s rest);
      same = ap (λ x. take (length s) x) past ∙ take-append-le (length s) s rest (omega arith) ∙ take_all (length s) s (omega arith);
    }

-- the bytes of a string end with it
abbrev EndsWith : List ℕ → List ℕ → Type 0
EndsWith s own = (front : List ℕ) × (own ≡ front ++ s)

last_part : (F G H : Format) (own s : List ℕ) → ((r : List ℕ) → H r → r ≡ s) → (F then G then H) own → EndsWith s own
last_part F G H own s last h = (h.front ++ h.second.front, h.whole ∙ ap (λ x. h.front ++ x) (h.second.whole ∙ ap (λ x. h.second.front ++ x) (last h.second.rest h.second.second)) ∙ sym (append_assoc h.front h.second.front s))

bytes_end : (own s : List ℕ) → SpellsBytes s own → EndsWith s own
bytes_end own s h = last_part _ _ _ own s (λ r is. is) h

text_ends : (own s : List ℕ) → SpellsText s own → EndsWith s own
text_ends own s h = last_part _ _ _ own s (λ r is. is.1) h

key_ends : (own s : List ℕ) → SpellsKey s own → EndsWith s own
key_ends own s (utf8, inl h) = bytes_end own s h
key_ends own s (utf8, inr h) = text_ends own s h

module _ (before own rest input : List ℕ) (few : length input < 2 ^ 64) (whole : input ≡ before ++ (own ++ rest)) where
  abbrev pub here : Bool → Place
  here mark = place_at (counted (length before)) (counted (length before + length own)) mark

  within : counted (length before) ≤ length input
  within = omega (arith, ap length whole, length-append before (own ++ rest))

  string_stands : (s : List ℕ) → EndsWith s own → StandsAt input (counted (length before + length own) - length s) s
  string_stands s (front, is) = ends_part before front s rest input (counted (length before + length own)) (whole ∙ ap (λ x. before ++ (x ++ rest)) is) (omega (arith, few, ap length whole, length-append before (own ++ rest), length-append own rest, ap length is))

  -- the second word of an event that has its bytes there
  pub second_is : (mark : Bool) (e : Event) → SpellsEvent e own → IsSecond input e (second_at (here mark) e)
  second_is mark told.null h = within
  second_is mark (told.boolean v) h = within
  second_is mark (told.integer v) h = refl
  second_is mark (told.real r) h = refl
  second_is mark (told.bytes s) h = string_stands s (bytes_end own s h)
  second_is mark (told.text s) h = string_stands s (text_ends own s h)
  second_is mark (told.open_array n) h = within
  second_is mark (told.open_object n) h = within
  second_is mark (told.key s) h = string_stands s (key_ends own s h)
  second_is mark (told.open_template n) h = within
  second_is mark (told.open_rows n) h = within
  second_is mark told.skip h = within
  second_is mark told.close h = within

-- ---- a tape that is written

-- it grew by the words of events
record GrewByAll (input : List ℕ) (old : Tape) (es : List Event) (new : Tape) : Type 0 where
  through : new.words.ghost_name ≡ old.words.ghost_name
  room : length new.words.now ≡ length old.words.now
  longer : old.len ≤ new.len
  added : List ℕ
  are : AreWordsOfAll input es added
  counted : new.len ≡ min (old.len + length added) (2 ^ 64 - 1)
  grew : new.len ≤ length new.words.now → words_in new ≡ words_in old ++ added

grew_by : (input : List ℕ) (a b c : Tape) (p : Place) (e : Event) (es : List Event) → IsSecond input e (second_at p e) → Grew a p e b → GrewByAll input b es c → GrewByAll input a (e ∷ es) c
grew_by input a b c p e es second first others =
    let these = head_of p.is_text e ∷ second_at p e ∷ [] in
    let two : length these ≡ 2 = refl in
    record {
      through = others.through ∙ first.through;
      room = others.room ∙ first.room;
      longer = omega (arith, first.longer, others.longer);
      added = these ++ others.added;
      are = tapes.more e es these others.added (record { is_text = p.is_text; second = second_at p e; are = refl; place = second }) others.are;
      counted = omega (arith, two, first.counted, others.counted, length-append these others.added);
      grew = λ fits. (let front : b.len ≤ length b.words.now = omega (arith, fits, others.longer, others.room) in others.grew fits ∙ ap (λ ws. ws ++ others.added) (first.grew front) ∙ append_assoc (words_in a) these others.added);
    }

-- `before` lies before the bytes of the events. A count of words that is the greatest or less stays so
grew_by_all : (input before rest : List ℕ) (at : ℕ) (bytes : List ℕ) (a b : Tape) (es : List Event) → length input < 2 ^ 64 → input ≡ before ++ (bytes ++ rest) → at ≡ length before → a.len ≤ 2 ^ 64 - 1 → TakesIn (λ x e p y. Grew x p e y) at bytes a es b → GrewByAll input a es b
grew_by_all input before rest at bytes a b es few whole at_is small (none n m) = record { through = refl; room = refl; longer = omega arith; added = []; are = tapes.none; counted = omega (arith, small); grew = λ fits. sym (append-nil (words_in m)) }
grew_by_all input before rest at bytes a b es few whole at_is small (more n own behind m k o e others spelled first after) =
    let tail : input ≡ before ++ (own ++ (behind ++ rest)) = whole ∙ ap (λ x. before ++ x) (append_assoc own behind rest) in
    let next : input ≡ (before ++ own) ++ (behind ++ rest) = tail ∙ sym (append_assoc before own (behind ++ rest)) in
    let second = second_is before own (behind ++ rest) input few tail (mark_of e own) e spelled in
    grew_by input m k o (place_at (counted n) (counted (n + length own)) (mark_of e own)) e others (subst (λ z. IsSecond input e (second_at (place_at (counted z) (counted (z + length own)) (mark_of e own)) e)) (sym at_is) second) first
    (grew_by_all input (before ++ own) rest (n + length own) behind k o others few next (omega (arith, at_is, length-append before own)) (omega (arith, first.counted)) after)

-- two words for each event
pub words_counted : (input : List ℕ) (es : List Event) (words : List ℕ) → AreWordsOfAll input es words → length words ≡ 2 * length es
words_counted input es words tapes.none = refl
words_counted input es words (tapes.more e rest these after first others) = omega (arith, length-append these after, ap length first.are, words_counted input rest after others)

module _ (limits : Limits) (bytes : List ℕ) (before after : Tape) (h : Header) (size len : ℕ) (levels : limits.levels ≡ 128) (fresh : before.len ≡ 0) (few : length bytes < 2 ^ 64) (t : BeginsTold limits (λ x e p y. Grew x p e y) bytes before after h) (size_is : size ≡ min (h.start + h.len) (2 ^ 64 - 1)) (len_is : len ≡ after.len) where
  grew_by_told : GrewByAll bytes before (events t.tells.tree) after
  grew_by_told =
      let m = t.tells in
      let whole : bytes ≡ m.head ++ (m.bytes ++ t.rest) = t.front ∙ ap (λ x. x ++ t.rest) t.same ∙ append_assoc m.head m.bytes t.rest in
      grew_by_all bytes m.head t.rest h.start m.bytes before after (events m.tree) few whole m.start (omega (arith, fresh)) m.told

  -- the words of the events that were reported, with room or without, are the message's tape
  told_tape : (words : List ℕ) → words ≡ grew_by_told.added → BeginsWithTape 128 bytes h.capabilities size words
  told_tape words these =
      let m = t.tells in
      let g = grew_by_told in
      let short = m.message.short in
      let whole = m.whole in
      record {
        text = t.text;
        rest = t.rest;
        front = t.front;
        size_is = omega (arith, whole, short, size_is);
        has = record { tree = m.tree; message = subst (λ n. IsMessage n h.capabilities m.tree t.text) levels m.message; keys = m.keys; tape = subst (λ ws. AreWordsOfAll bytes (events m.tree) ws) (sym these) g.are };
      }

  pub taped : (capabilities : ℕ) (words : List ℕ) → capabilities ≡ h.capabilities → (after.words.ghost_name ≡ before.words.ghost_name → words ≡ after.words.now) → len ≤ length words → BeginsWithTape 128 bytes capabilities size (take len words)
  taped capabilities words same lent fits =
      let g = grew_by_told in
      let words_are : words ≡ after.words.now = lent g.through in
      let none_yet : words_in before ≡ [] = ap (λ n. take n before.words.now) fresh in
      let room : after.len ≤ length after.words.now = omega (arith, fits, len_is, ap length words_are) in
      let all : words_in after ≡ g.added = g.grew room ∙ ap (λ ws. ws ++ g.added) none_yet in
      subst (λ k. BeginsWithTape 128 bytes k size (take len words)) (sym same) (told_tape (take len words) (ap (λ n. take n words) len_is ∙ ap (λ ws. take after.len ws) words_are ∙ all))

  -- and there are as many as were counted
  pub tape_counted : HasTapeOf 128 bytes len
  tape_counted =
      let m = t.tells in
      let g = grew_by_told in
      let counted = g.counted in
      let whole = m.whole in
      let body = m.body in
      let short = m.message.short in
      record {
        capabilities = h.capabilities;
        size = size;
        words = g.added;
        tape = told_tape g.added refl;
        len_is = omega (arith, words_counted bytes (events m.tree) g.added g.are, events_few limits.levels m.tree m.message.body m.message.value, counted, fresh, len_is, whole, body, short);
      }

-- the tapes of a message have one length: so whoever makes as much room as is wanted has enough
pub one_length : (bytes : List ℕ) (m n : ℕ) → HasTapeOf 128 bytes m → HasTapeOf 128 bytes n → m ≡ n
one_length bytes m n a b =
    let x = a.tape in
    let y = b.tape in
    let same = one_message 128 a.capabilities b.capabilities x.text y.text x.rest y.rest x.has.tree y.has.tree x.has.message y.has.message (sym x.front ∙ y.front) in
    let len = words_counted bytes (events x.has.tree) a.words x.has.tape in
    let other = words_counted bytes (events y.has.tree) b.words y.has.tape in
    let a_is = a.len_is in
    let b_is = b.len_is in
    omega (arith, len, other, ap (λ t. length (events t)) same.2, a_is, b_is)
