-- Fields of a row that are read one after another.
use Rattle.std.proofs.Common.{◌≡◌, ℕ, zero, suc, ◌+◌, ◌-◌, ◌≤◌, Bool, true, false, cond, List, [], ◌∷◌, length, map, take, drop, get_or, Option, Some, option_map, refl, sym, ap, subst, ◌∙◌, arith}
use Rattle.std.proofs.lemmas.List.{take_all}
use Rattle.std.proofs.lemmas.Slice.Eq.{bytes_eq-Decides}
use Rattle.std.specs.Str.{bytes_eq, is_utf8}
use Rattle.bser_format.specs.Content.{Content}
use Rattle.bser_format.specs.Expected.{field_due, name_due}
use Rattle.bser_format.specs.declared.errors.Error.{Error}
use Rattle.bser_deserializer.specs.Access.{OpensPairs, after_closing}
use Rattle.bser_deserializer.specs.Dues.{name_at}
use Rattle.bser_deserializer.specs.Fields.{field_from, field_of}
use Rattle.bser_deserializer.specs.HoldsLists.{HoldsTuple}
use Rattle.bser_deserializer.specs.Parts.{wanted_pairs, pairs_left}
use Rattle.bser_deserializer.specs.Reading.{Answers, Asking, Refuses, Needs}
use Rattle.bser_deserializer.specs.State.{State, awaiting}
use Rattle.bser_deserializer.specs.declared.field.Field.{Field}
use Rattle.bser_deserializer.specs.declared.field.Field.TheVariants.{Known, Unknown}
use Rattle.bser_deserializer.specs.declared.frames.MapHead.{MapHead}
use Rattle.bser_deserializer.specs.View.{pairs_head}
use Rattle.bser_types.specs.Slots.{StructField, fill, fill_at, fill_field, reads_struct, struct_needs, KeepsBoth, FinishesEach}
use Rattle.bser_structs.specs.Asked.{place_known}
use Rattle.bser_structs.specs.Askings.{AllAsked, asking_fields, joined}
use Rattle.bser_structs.specs.FieldCalls.{MakesStep, RefusesStep, NamesField, NamesFields, NamesKey}
use Rattle.bser_structs.specs.Rows.{IsInTurn, KeysInTurn, AllInTurn, IsKnown, AnyField, Turns, RefusesTurn, ReadsTurns, RefusesTurns, ReadsRest}
use Rattle.bser_structs.proofs.Places.{first_one, later_one}
use Rattle.bser_structs.proofs.Structs.{AtField, struct_start}
use Rattle.bser_structs.proofs.Turns.{row_step, row_refused, row_over, struct_ended}

-- ---- names

shifted : (i : ℕ) (names : List (List ℕ)) (name : List ℕ) (p : ℕ) → field_from i names name ≡ Known p → field_from (suc i) names name ≡ Known (suc p)
shifted i [] name p e = absurd cc
shifted i (n ∷ names) name p e = at (bytes_eq n name) (shifted (suc i) names name p) e
  where
    at : (b : Bool) → (field_from (suc i) names name ≡ Known p → field_from (suc (suc i)) names name ≡ Known (suc p)) → cond b (Known i) (field_from (suc i) names name) ≡ Known p
        → cond b (Known (suc i)) (field_from (suc (suc i)) names name) ≡ Known (suc p)
    at true later e = let same : i ≡ p = cc in ap (λ j. Known (suc j)) same
    at false later e = later e

-- a key among the others is no first name that is none of them
key_later : (name : List ℕ) (others : List (List ℕ)) (at : ℕ) (s : State) (p : ℕ) → field_of others name ≡ Unknown → NamesKey others at s (Known p) → NamesKey (name ∷ others) at s (Known (suc p))
key_later name others at s p alone key = record {
  name = key.name;
  due = key.due;
  utf8 = key.utf8;
  found = sym (at_name (bytes_eq name key.name) refl);
}
  where
    at_name : (b : Bool) → bytes_eq name key.name ≡ b → cond b (Known 0) (field_from 1 others key.name) ≡ Known (suc p)
    at_name true e =
        let same : name ≡ key.name = (bytes_eq-Decides name key.name).0 e in
        let both : Unknown ≡ Known p = sym alone ∙ ap (field_of others) same ∙ sym key.found in
        absurd cc
    at_name false e = shifted 0 others key.name p (sym key.found)

-- the key that is the first name
key_first : (names others : List (List ℕ)) (at : ℕ) (s : State) → IsInTurn names others at s → NamesKey names at s (Known 0)
key_first names others at s turn = record {
  name = turn.name;
  due = turn.due;
  utf8 = turn.utf8;
  found = sym (ap (λ ns. field_of ns turn.name) turn.first ∙ ap (λ b. cond b (Known 0) (field_from 1 others turn.name)) ((bytes_eq-Decides turn.name turn.name).1 refl));
}

-- the first name is the key's, and none of the others
pub in_turn : {A : Type 0} (f : A → List ℕ) (xs : List A) (x : A) (key : List ℕ) (at : ℕ) (s : State) → (length xs ≡ 0 → ⊥) → bytes_eq (f (get_or xs 0 x)) key ≡ true → field_of (map f (take (length xs - 1) (drop 1 xs))) (f (get_or xs 0 x)) ≡ Unknown
    → name_at at s.keys ≡ name_due key → is_utf8 key ≡ true → IsInTurn (map f xs) (map f (take (length xs - 1) (drop 1 xs))) at s
in_turn f [] x key at s some is alone due utf8 = absurd (some refl)
in_turn f (y ∷ xs) x key at s some is alone due utf8 =
    let same : f y ≡ key = (bytes_eq-Decides (f y) key).0 is in
    let less : length (y ∷ xs) - 1 ≡ length xs = omega arith in
    let whole : take (length (y ∷ xs) - 1) xs ≡ xs = ap (λ n. take n xs) less ∙ take_all (length xs) xs (omega arith) in
    record {
      name = key;
      first = ap (λ n. n ∷ map f xs) same ∙ ap (λ l. key ∷ map f l) (sym whole);
      due = due;
      utf8 = utf8;
      alone = ap (field_of (map f (take (length (y ∷ xs) - 1) xs))) (sym same) ∙ alone;
    }

-- ---- the fields of a struct in turn

-- fields that were read as the others were read among all
turns_later : (name : List ℕ) (others : List (List ℕ)) (n : ℕ) (P : StructField → Type 0) (F : List StructField → Type 0) (s : StructField) (ss : List StructField) (at : ℕ) (old new : State) → field_of others name ≡ Unknown → P s
    → Turns IsKnown others n F ss at old new → Turns IsKnown (name ∷ others) n (KeepsBoth P F) (s ∷ ss) at old new
turns_later name others zero P F s ss at old new alone kept t = ((kept, t.0), t.1)
turns_later name others (suc n) P F s ss at old new alone kept (Known p, mid, known, key, m) = (
  Known (suc p),
  mid,
  tt,
  key_later name others at old p alone key,
  record {
    tree = m.tree;
    next = s ∷ m.next;
    made = ap (option_map (λ rs. s ∷ rs)) m.made;
    kept = turns_later name others n P F s m.next (at + 1) mid new alone kept m.kept;
    text = m.text;
    filled = m.filled;
    took = m.took;
    state = m.state;
  },
)
turns_later name others (suc n) P F s ss at old new alone kept (Unknown, mid, known, key, m) = absurd known

refused_later : (name : List ℕ) (others : List (List ℕ)) (field : StructField) (fields : List StructField) (tells : Option (Asking field.reads)) (rest : Option (AllAsked fields)) (some : Needs) (ns : List Needs) (e : Error) (n : ℕ) (s : StructField) (ss : List StructField) (at : ℕ) (old new : State)
    → field_of others name ≡ Unknown → RefusesTurn IsKnown others (struct_needs ns) rest e n ss at old new
    → RefusesTurn IsKnown (name ∷ others) (struct_needs (some ∷ ns)) (joined {s = field} {ss = fields} tells rest) e n (s ∷ ss) at old new
refused_later name others field fields tells rest some ns e zero s ss at old new alone (Known p, known, key, is) =
    (Known (suc p), tt, key_later name others at old p alone key, later_one field fields tells rest some ns e (awaiting field_due old) new (suc p) p s ss refl is)
refused_later name others field fields tells rest some ns e zero s ss at old new alone (Unknown, known, key, is) = absurd known
refused_later name others field fields tells rest some ns e (suc n) s ss at old new alone (Known p, mid, known, key, m) = (
  Known (suc p),
  mid,
  tt,
  key_later name others at old p alone key,
  record {
    tree = m.tree;
    next = s ∷ m.next;
    made = ap (option_map (λ rs. s ∷ rs)) m.made;
    kept = refused_later name others field fields tells rest some ns e n s m.next (at + 1) mid new alone m.kept;
    text = m.text;
    filled = m.filled;
    took = m.took;
    state = m.state;
  },
)
refused_later name others field fields tells rest some ns e (suc n) s ss at old new alone (Unknown, mid, known, key, m) = absurd known

-- none was read
pub no_turn : (Q : Field → Type 0) (names : List (List ℕ)) (keeps : List StructField → Type 0) (ss : List StructField) (at : ℕ) (old : State) → keeps ss → ReadsTurns Q names keeps ss at at old old
no_turn Q names keeps ss at old kept = record { count = 0; ends = omega arith; turns = (kept, refl) }

-- the keys of a row that stay are in turn still
same_turns : (names : List (List ℕ)) (n at : ℕ) (s t : State) → t.keys ≡ s.keys → KeysInTurn names n at s → KeysInTurn names n at t
same_turns names zero at s t same keys = tt
same_turns names (suc n) at s t same (others, turn, keys) =
    (others, record { name = turn.name; first = turn.first; due = ap (name_at at) same ∙ turn.due; utf8 = turn.utf8; alone = turn.alone }, same_turns others n (at + 1) s t same keys)

-- one more key is in turn
pub one_key : (names others : List (List ℕ)) (n at : ℕ) (s : State) → IsInTurn names others at s → AllInTurn others n (at + 1) s → AllInTurn names (suc n) at s
one_key names others n at s turn rest = ((others, turn, rest.0), omega (arith, rest.1))

-- what is kept tells this
turns_tell : (Q : Field → Type 0) (names : List (List ℕ)) (n : ℕ) (F G : List StructField → Type 0) (ss : List StructField) (at : ℕ) (old new : State) → ((next : List StructField) → F next → G next) → Turns Q names n F ss at old new → Turns Q names n G ss at old new
turns_tell Q names zero F G ss at old new by t = (by ss t.0, t.1)
turns_tell Q names (suc n) F G ss at old new by (f, mid, q, key, m) = (
  f,
  mid,
  q,
  key,
  record {
    tree = m.tree;
    next = m.next;
    made = m.made;
    kept = turns_tell Q names n F G m.next (at + 1) mid new by m.kept;
    text = m.text;
    filled = m.filled;
    took = m.took;
    state = m.state;
  },
)

-- the first field was read, and then the others
pub turn_then : (P : StructField → Type 0) (F G : List StructField → Type 0) (s : StructField) (ss : List StructField) (n : ℕ) (old q mid new : State) → q ≡ awaiting field_due old → MakesStep fill P s q mid
    → ((names : List (List ℕ)) (at : ℕ) → KeysInTurn names n at mid → Turns IsKnown names n F ss at mid new) → ((next : List StructField) → KeepsBoth P F next → G next)
    → (names : List (List ℕ)) (at : ℕ) → KeysInTurn names (suc n) at old → Turns IsKnown names (suc n) G (s ∷ ss) at old new
turn_then P F G s ss n old q mid new due m rest by names at (others, turn, keys) =
    let same : mid.keys ≡ old.keys = ap (λ (y : State). y.keys) m.state ∙ ap (λ (y : State). y.keys) due in
    let r = rest others (at + 1) (same_turns others n (at + 1) old mid same keys) in
    turns_tell IsKnown names (suc n) (KeepsBoth P F) G (s ∷ ss) at old new by (
      Known 0,
      mid,
      tt,
      key_first names others at old turn,
      subst (λ y. MakesStep (λ b. fill_at 0 b) (λ next. Turns IsKnown names n (KeepsBoth P F) next (at + 1) mid new) (s ∷ ss) y mid) due
          (record {
            tree = m.tree;
            next = m.next ∷ ss;
            made = ap (option_map (λ y. y ∷ ss)) m.made;
            kept = subst (λ l. Turns IsKnown l n (KeepsBoth P F) (m.next ∷ ss) (at + 1) mid new) (sym turn.first)
                (turns_later turn.name others n P F m.next ss (at + 1) mid new turn.alone m.kept r);
            text = m.text;
            filled = m.filled;
            took = m.took;
            state = m.state;
          }),
    )

-- the first field is refused
pub turn_refused : (field : StructField) (fields : List StructField) (tells : Option (Asking field.reads)) (rest : Option (AllAsked fields)) (some : Needs) (ns : List Needs) (e : Error) (n : ℕ) (old q new : State)
    → q ≡ awaiting field_due old → RefusesStep fill some (NamesField some tells e field q) e field q new
    → (names : List (List ℕ)) (at : ℕ) → KeysInTurn names (suc n) at old → RefusesTurns IsKnown names (struct_needs (some ∷ ns)) (joined {s = field} {ss = fields} tells rest) e (field ∷ fields) at old new
turn_refused field fields tells rest some ns e n old q new due first names at (others, turn, keys) = record {
  count = 0;
  turns = (
    Known 0,
    tt,
    key_first names others at old turn,
    subst (λ y. RefusesStep (fill_at 0) (struct_needs (some ∷ ns)) (NamesFields (struct_needs (some ∷ ns)) (joined {s = field} {ss = fields} tells rest) (Some 0) e (field ∷ fields) y) e (field ∷ fields) y new) due
        (first_one field fields tells rest some ns e q new 0 field fields refl first),
  );
}

-- the first field was read, and one of the others is refused
pub turn_then_refused : (field : StructField) (fields : List StructField) (tells : Option (Asking field.reads)) (rest : Option (AllAsked fields)) (P : StructField → Type 0) (some : Needs) (ns : List Needs) (e : Error) (n : ℕ) (old q mid new : State)
    → q ≡ awaiting field_due old → MakesStep fill P field q mid
    → ((names : List (List ℕ)) (at : ℕ) → KeysInTurn names n at mid → RefusesTurns IsKnown names (struct_needs ns) rest e fields at mid new)
    → (names : List (List ℕ)) (at : ℕ) → KeysInTurn names (suc n) at old → RefusesTurns IsKnown names (struct_needs (some ∷ ns)) (joined {s = field} {ss = fields} tells rest) e (field ∷ fields) at old new
turn_then_refused field fields tells rest P some ns e n old q mid new due m later names at (others, turn, keys) =
    let same : mid.keys ≡ old.keys = ap (λ (y : State). y.keys) m.state ∙ ap (λ (y : State). y.keys) due in
    let r = later others (at + 1) (same_turns others n (at + 1) old mid same keys) in
    record {
      count = suc r.count;
      turns = (
        Known 0,
        mid,
        tt,
        key_first names others at old turn,
        subst (λ y. MakesStep (λ b. fill_at 0 b) (λ next. RefusesTurn IsKnown names (struct_needs (some ∷ ns)) (joined {s = field} {ss = fields} tells rest) e r.count next (at + 1) mid new) (field ∷ fields) y mid) due
            (record {
              tree = m.tree;
              next = m.next ∷ fields;
              made = ap (option_map (λ y. y ∷ fields)) m.made;
              kept = subst (λ l. RefusesTurn IsKnown l (struct_needs (some ∷ ns)) (joined {s = field} {ss = fields} tells rest) e r.count (m.next ∷ fields) (at + 1) mid new) (sym turn.first)
                  (refused_later turn.name others field fields tells rest some ns e r.count m.next fields (at + 1) mid new turn.alone r.turns);
              text = m.text;
              filled = m.filled;
              took = m.took;
              state = m.state;
            }),
      );
    }

-- ---- one more at the end

one_more_turn : (Q : Field → Type 0) (names : List (List ℕ)) (n : ℕ) (F G : List StructField → Type 0) (ss : List StructField) (at end : ℕ) (old mid new : State) → end ≡ at + n → Turns Q names n F ss at old mid
    → ((next : List StructField) → F next → Turns Q names 1 G next end mid new) → Turns Q names (suc n) G ss at old new
one_more_turn Q names zero F G ss at end old mid new ends t more =
    let here : end ≡ at = omega (arith, ends) in
    subst (λ y. Turns Q names 1 G ss at y new) t.1 (subst (λ p. Turns Q names 1 G ss p mid new) here (more ss t.0))
one_more_turn Q names (suc n) F G ss at end old mid new ends (f, between, q, key, m) more =
    let there : end ≡ (at + 1) + n = omega (arith, ends) in (
      f,
      between,
      q,
      key,
      record {
        tree = m.tree;
        next = m.next;
        made = m.made;
        kept = one_more_turn Q names n F G m.next (at + 1) end between mid new there m.kept more;
        text = m.text;
        filled = m.filled;
        took = m.took;
        state = m.state;
      },
    )

then_refused : {all : List StructField} (Q : Field → Type 0) (names : List (List ℕ)) (needs : Needs) (r : Option (AllAsked all)) (e : Error) (n : ℕ) (F : List StructField → Type 0) (ss : List StructField) (at end : ℕ) (old mid new : State) → end ≡ at + n → Turns Q names n F ss at old mid
    → ((next : List StructField) → F next → RefusesTurn Q names needs r e 0 next end mid new) → RefusesTurn Q names needs r e n ss at old new
then_refused Q names needs r e zero F ss at end old mid new ends t last =
    let here : end ≡ at = omega (arith, ends) in
    subst (λ y. RefusesTurn Q names needs r e 0 ss at y new) t.1 (subst (λ p. RefusesTurn Q names needs r e 0 ss p mid new) here (last ss t.0))
then_refused Q names needs r e (suc n) F ss at end old mid new ends (f, between, q, key, m) last =
    let there : end ≡ (at + 1) + n = omega (arith, ends) in (
      f,
      between,
      q,
      key,
      record {
        tree = m.tree;
        next = m.next;
        made = m.made;
        kept = then_refused Q names needs r e n F m.next (at + 1) end between mid new there m.kept last;
        text = m.text;
        filled = m.filled;
        took = m.took;
        state = m.state;
      },
    )

-- a field more was read
pub rest_step : (names : List (List ℕ)) (F G : List StructField → Type 0) (f : Field) (ss : List StructField) (at place : ℕ) (old s q new : State) → ReadsTurns AnyField names F ss at place old s → NamesKey names place s f → q ≡ awaiting field_due s
    → ((next : List StructField) → F next → MakesStep (λ b. fill_field b f) G next q new) → ReadsTurns AnyField names G ss at (place + 1) old new
rest_step names F G f ss at place old s q new r key due step = record {
  count = suc r.count;
  ends = omega (arith, r.ends);
  turns = one_more_turn AnyField names r.count F G ss at place old s new r.ends r.turns (λ next kept.
      let m = step next kept in (
        f,
        new,
        tt,
        key,
        subst (λ y. MakesStep (λ b. fill_field b f) (λ last. G last × (new ≡ new)) next y new) due
            (record { tree = m.tree; next = m.next; made = m.made; kept = (m.kept, refl); text = m.text; filled = m.filled; took = m.took; state = m.state }),
      ));
}

-- the next is refused
pub rest_refused : {all : List StructField} (names : List (List ℕ)) (needs : Needs) (r : Option (AllAsked all)) (e : Error) (F : List StructField → Type 0) (f : Field) (ss : List StructField) (at place : ℕ) (old s q new : State) → ReadsTurns AnyField names F ss at place old s → NamesKey names place s f → q ≡ awaiting field_due s
    → ((next : List StructField) → F next → RefusesStep (λ b. fill_field b f) needs (NamesFields needs r (place_known f) e next q) e next q new) → RefusesTurns AnyField names needs r e ss at old new
rest_refused names needs r e F f ss at place old s q new t key due step = record {
  count = t.count;
  turns = then_refused AnyField names needs r e t.count F ss at place old s new t.ends t.turns (λ next kept.
      (f, tt, key, subst (λ y. RefusesStep (λ b. fill_field b f) needs (NamesFields needs r (place_known f) e next y) e next y new) due (step next kept)));
}

-- a row's keys stay
turns_keys : (Q : Field → Type 0) (names : List (List ℕ)) (n : ℕ) (F : List StructField → Type 0) (ss : List StructField) (at : ℕ) (old new : State) → Turns Q names n F ss at old new → new.keys ≡ old.keys
turns_keys Q names zero F ss at old new t = ap (λ (y : State). y.keys) t.1
turns_keys Q names (suc n) F ss at old new (f, mid, q, key, m) = turns_keys Q names n F m.next (at + 1) mid new m.kept ∙ ap (λ (y : State). y.keys) m.state

pub rest_read : (names : List (List ℕ)) (F : List StructField → Type 0) (ss : List StructField) (at place : ℕ) (old new : State) → ReadsTurns AnyField names F ss at place old new → length new.keys ≤ place → ReadsRest names F ss at old new
rest_read names F ss at place old new r over =
    let same : new.keys ≡ old.keys = turns_keys AnyField names r.count F ss at old new r.turns in
    (place, subst (λ ks. length ks ≤ place) same over, r)

-- the place after the last key
pub rest_over : (names : List (List ℕ)) (F : List StructField → Type 0) (ss : List StructField) (at : ℕ) (old new : State) → (r : ReadsRest names F ss at old new) → length new.keys ≤ r.0
rest_over names F ss at old new r = subst (λ ks. length ks ≤ r.0) (sym (turns_keys AnyField names r.2.count F ss at old new r.2.turns)) r.1

-- ---- a struct of them

module _ (names : List (List ℕ)) (start : List StructField) (tells : Option (AllAsked start)) where
  -- fields that were read lead to fields that are kept
  pub record AtKept (Q : Field → Type 0) (keeps : List StructField → Type 0) (o : State) (h : MapHead) (z : State) : Type 0 where
    pub fields : List StructField
    pub kept : keeps fields
    pub at : AtField names start tells o fields (pairs_head h z)

  turned : (Q : Field → Type 0) (n : ℕ) (keeps : List StructField → Type 0) (o z : State) (ss : List StructField) (h : MapHead) (s : State) (end : ℕ) → end ≡ h.at + n → h.row ≡ true → AtField names start tells o ss (pairs_head h s)
      → Turns Q names n keeps ss h.at s z → AtKept Q keeps o (record h { at = end }) z
  turned Q zero keeps o z ss h s end ends row at t =
      let here : h.at ≡ end = omega (arith, ends) in
      record {
        fields = ss;
        kept = t.0;
        at = subst (λ p. AtField names start tells o ss (pairs_head (record h { at = p }) z)) here (subst (λ y. AtField names start tells o ss (pairs_head h y)) (sym t.1) at);
      }
  turned Q (suc n) keeps o z ss h s end ends row at (f, mid, q, key, m) =
      let next = row_step names start tells o mid ss f h s (awaiting field_due s) (λ next. Turns Q names n keeps next (h.at + 1) mid z) row at key refl m in
      let there : end ≡ (h.at + 1) + n = omega (arith, ends) in
      turned Q n keeps o z m.next (record h { at = h.at + 1 }) mid end there row next m.kept

  pub struct_turns : (Q : Field → Type 0) (keeps : List StructField → Type 0) (o z : State) (ss : List StructField) (h : MapHead) (s : State) (end : ℕ) → h.row ≡ true → AtField names start tells o ss (pairs_head h s)
      → ReadsTurns Q names keeps ss h.at end s z → AtKept Q keeps o (record h { at = end }) z
  struct_turns Q keeps o z ss h s end row at r = turned Q r.count keeps o z ss h s end r.ends row at r.turns

  refused_turn : (Q : Field → Type 0) (needs : Needs) (e : Error) (n : ℕ) (o z : State) (ss : List StructField) (h : MapHead) (s : State) → h.row ≡ true → AtField names start tells o ss (pairs_head h s)
      → RefusesTurn Q names needs tells e n ss h.at s z → Refuses (reads_struct names start) (option_map (asking_fields names {ss = start}) tells) needs e o z
  refused_turn Q needs e zero o z ss h s row at (f, q, key, is) = row_refused names start tells needs e o z ss f h s (awaiting field_due s) row at key refl is
  refused_turn Q needs e (suc n) o z ss h s row at (f, mid, q, key, m) =
      let next = row_step names start tells o mid ss f h s (awaiting field_due s) (λ next. RefusesTurn Q names needs tells e n next (h.at + 1) mid z) row at key refl m in
      refused_turn Q needs e n o z m.next (record h { at = h.at + 1 }) mid row next m.kept

  pub struct_turn_refused : (Q : Field → Type 0) (needs : Needs) (e : Error) (o z : State) (ss : List StructField) (h : MapHead) (s : State) → h.row ≡ true → AtField names start tells o ss (pairs_head h s)
      → RefusesTurns Q names needs tells e ss h.at s z → Refuses (reads_struct names start) (option_map (asking_fields names {ss = start}) tells) needs e o z
  struct_turn_refused Q needs e o z ss h s row at r = refused_turn Q needs e r.count o z ss h s row at r.turns

  -- ---- all fields in turn

  -- a row whose keys are the names in turn
  pub in_turn_read : {V : Type 0} (holds : V → List (Content → Type 0)) (o m z : State) (h : MapHead) (s : State) (v : V) → h.row ≡ true → h.at ≡ 0 → OpensPairs o (pairs_head h s) → AllInTurn names (length start) 0 s
      → Turns IsKnown names (length start) (λ ss. FinishesEach holds ss (Some v)) start 0 s m → z ≡ after_closing h.levels h.opened m → Answers (reads_struct names start) (λ v. HoldsTuple (holds v)) o z v
  in_turn_read holds o m z h s v row first opens keys turns closes =
      let n : ℕ = length start in
      let finished : List StructField → Type 0 = λ ss. FinishesEach holds ss (Some v) in
      let turned_at : Turns IsKnown names n finished start h.at s m = subst (λ p. Turns IsKnown names n finished start p s m) (sym first) turns in
      let ends : n ≡ h.at + n = omega (arith, first) in
      let k = struct_turns IsKnown finished o m start h s n row (struct_start names start tells o (pairs_head h s) opens) (record { count = n; ends = ends; turns = turned_at }) in
      let same : length m.keys ≡ length s.keys = ap length (turns_keys IsKnown names n finished start 0 s m turns) in
      let over : pairs_left (wanted_pairs m.keys h.row n) ≡ 0 = row_over m.keys h.row n row (omega (arith, same, keys.1)) in
      struct_ended names start tells holds o z k.fields (record h { at = n }) m v k.at over closes k.kept

  pub in_turn_refused : (needs : Needs) (e : Error) (o z : State) (h : MapHead) (s : State) → h.row ≡ true → h.at ≡ 0 → OpensPairs o (pairs_head h s) → RefusesTurns IsKnown names needs tells e start 0 s z
      → Refuses (reads_struct names start) (option_map (asking_fields names {ss = start}) tells) needs e o z
  in_turn_refused needs e o z h s row first opens r =
      struct_turn_refused IsKnown needs e o z start h s row (struct_start names start tells o (pairs_head h s) opens) (subst (λ p. RefusesTurns IsKnown names needs tells e start p s z) (sym first) r)
