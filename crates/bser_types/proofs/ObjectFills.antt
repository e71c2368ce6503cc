-- What follows the head of an object is what the object wants.
use Rattle.std.proofs.Common.{◌≡◌, ℕ, zero, suc, ◌-◌, Bool, true, false, pos, List, [], ◌∷◌, ◌++◌, map, Some, length, append_assoc, refl, sym, ap, subst, ◌∙◌, arith, inl, inr}
use Rattle.std.proofs.lemmas.List.{append_cancel_left}
use Rattle.std.specs.Prelude.{if◌then◌else◌}
use Rattle.std.specs.Str.{is_utf8}
use Rattle.std.proofs.lemmas.Int.{ints}
use Rattle.bser_format.specs.Tree.{Tree, null, boolean, integer, real, bytes, text, array, object, template, Entries, no_entries, entry, Fields, no_fields, skip, field, entries, fields}
use Rattle.bser_format.specs.Grammar.{Format, Bytes, Each, SpellsCount, SpellsEntry, SpellsField, Spells, ◌then◌}
use Rattle.bser_format.specs.Expand.{expand, expand_entries, expand_fields, key_tree}
use Rattle.bser_format.specs.Expected.{Due, Fills, FillsNode, FillsRow, FillsPair, FillsPairs, WantedPairs, entries_of_object, fields_of_row, nothing_due, node_due, key_due, field_due, name_due, row_due}
use Rattle.bser_format.specs.ReadsScalars.{string_bytes_of}
use Rattle.bser_format.proofs.GrammarLaws.{one_int}
use Rattle.bser_deserializer.specs.Parts.{BeginsPairs, ObjectHead}

-- ---- lists of forms

-- a form in two parts, and then a third
pub then_assoc : (F G H : Format) (b x : List ℕ) → (F then G) b → H x → (F then G then H) (b ++ x)
then_assoc F G H b x h t = record {
  front = h.front;
  rest = h.rest ++ x;
  whole = ap (λ c. c ++ x) h.whole ∙ append_assoc h.front h.rest x;
  first = h.first;
  second = record { front = h.rest; rest = x; whole = refl; first = h.second; second = t };
}

-- ---- keys

key_tree_bytes : (b : Bool) (k : List ℕ) → string_bytes_of (if b then text k else bytes k) ≡ Some k
key_tree_bytes true k = refl
key_tree_bytes false k = refl

key_bytes : (k : List ℕ) → string_bytes_of (key_tree k) ≡ Some k
key_bytes k = key_tree_bytes (is_utf8 k) k

-- keys of one tree are the same
pub same_key : (k l : List ℕ) → key_tree k ≡ key_tree l → k ≡ l
same_key k l e = let s : Some k ≡ Some l = sym (key_bytes k) ∙ ap string_bytes_of e ∙ key_bytes l in cc

key_no_object : (k : List ℕ) (us : Entries) → object us ≡ key_tree k → ⊥
key_no_object k us e = let s : string_bytes_of (object us) ≡ Some k = ap string_bytes_of e ∙ key_bytes k in cc

-- ---- entries, templates written out

pub record EntriesWhole (n : ℕ) (us : Entries) (x : List ℕ) : Type 0 where
  pub written : Entries
  pub stands : us ≡ expand_entries written
  pub count : length (entries us) ≡ length (entries written)
  pub spelled : Each (SpellsEntry (Spells n)) (entries written) x

entries_whole : (n : ℕ) (us : Entries) (x : List ℕ) → Each (FillsPair n) (entries us) x → EntriesWhole n us x
entries_whole n no_entries x h = record { written = no_entries; stands = refl; count = refl; spelled = h }
entries_whole n (entry k u us) x h =
    let rest = entries_whole n us h.rest h.second in
    let value : FillsNode n u h.first.rest = h.first.second in
    record {
      written = entry k value.tree rest.written;
      stands = ap (λ t. entry k t us) value.stands ∙ ap (entry k (expand value.tree)) rest.stands;
      count = ap suc rest.count;
      spelled = record {
        front = h.front;
        rest = h.rest;
        whole = h.whole;
        first = record { front = h.first.front; rest = h.first.rest; whole = h.first.whole; first = h.first.first; second = value.spelled };
        second = rest.spelled;
      };
    }

entries_only : (n : ℕ) (ts : Entries) (x : List ℕ) → Each (SpellsEntry (Spells n)) (entries ts) x → Each (FillsPair n) (entries (expand_entries ts)) x
entries_only n no_entries x h = h
entries_only n (entry k t ts) x h = record {
  front = h.front;
  rest = h.rest;
  whole = h.whole;
  first = record { front = h.first.front; rest = h.first.rest; whole = h.first.whole; first = h.first.first; second = record { tree = t; stands = refl; spelled = h.first.second } };
  second = entries_only n ts h.rest h.second;
}

as_many_entries : (ts : Entries) → length (entries (expand_entries ts)) ≡ length (entries ts)
as_many_entries no_entries = refl
as_many_entries (entry k t ts) = ap suc (as_many_entries ts)

-- ---- fields of a row

fields_whole : (n : ℕ) (us : Entries) (ks : List (List ℕ)) (x : List ℕ) → map (λ e. e.0) (entries us) ≡ ks → Each (λ e. Fills n field_due e.1) (entries us) x → FillsRow n ks (object us) x
fields_whole n no_entries [] x e h = record { row = no_fields; even = refl; stands = refl; spelled = h }
fields_whole n no_entries (k ∷ ks) x e h = absurd cc
fields_whole n (entry l u us) [] x e h = absurd cc
fields_whole n (entry l u us) (k ∷ ks) x e h =
    let name : l ≡ k = cc in
    let names : map (λ e. e.0) (entries us) ≡ ks = cc in
    let rest = fields_whole n us ks h.rest names h.second in
    let stands : object us ≡ object (expand_fields ks rest.row) = rest.stands in
    let same : us ≡ expand_fields ks rest.row = cc in
    at name rest same h.first
  where
    at : l ≡ k → (rest : FillsRow n ks (object us) h.rest) → us ≡ expand_fields ks rest.row → Fills n field_due u h.front → FillsRow n (k ∷ ks) (object (entry l u us)) x
    at name rest same (inl s) = record {
      row = skip rest.row;
      even = ap suc rest.even;
      stands = ap object (ap (λ l. entry l u us) name ∙ ap (λ t. entry k t us) s.0 ∙ ap (entry k null) same);
      spelled = record { front = h.front; rest = h.rest; whole = h.whole; first = s.1; second = rest.spelled };
    }
    at name rest same (inr s) = record {
      row = field s.tree rest.row;
      even = ap suc rest.even;
      stands = ap object (ap (λ l. entry l u us) name ∙ ap (λ t. entry k t us) s.stands ∙ ap (entry k (expand s.tree)) same);
      spelled = record { front = h.front; rest = h.rest; whole = h.whole; first = s.spelled; second = rest.spelled };
    }

names_of_fields : (ks : List (List ℕ)) (fs : Fields) → length (fields fs) ≡ length ks → map (λ e. e.0) (entries (expand_fields ks fs)) ≡ ks
names_of_fields [] fs e = refl
names_of_fields (k ∷ ks) no_fields e = absurd (omega (arith, e))
names_of_fields (k ∷ ks) (skip fs) e = ap (λ l. k ∷ l) (names_of_fields ks fs (omega (arith, e)))
names_of_fields (k ∷ ks) (field t fs) e = ap (λ l. k ∷ l) (names_of_fields ks fs (omega (arith, e)))

fields_only : (n : ℕ) (ks : List (List ℕ)) (fs : Fields) (x : List ℕ) → length (fields fs) ≡ length ks → Each (SpellsField (Spells n)) (fields fs) x → Each (λ e. Fills n field_due e.1) (entries (expand_fields ks fs)) x
fields_only n [] no_fields x e h = h
fields_only n [] (skip fs) x e h = absurd (omega (arith, e))
fields_only n [] (field t fs) x e h = absurd (omega (arith, e))
fields_only n (k ∷ ks) no_fields x e h = absurd (omega (arith, e))
fields_only n (k ∷ ks) (skip fs) x e h = record { front = h.front; rest = h.rest; whole = h.whole; first = inl (refl, h.first); second = fields_only n ks fs h.rest (omega (arith, e)) h.second }
fields_only n (k ∷ ks) (field t fs) x e h = record { front = h.front; rest = h.rest; whole = h.whole; first = inr (record { tree = t; stands = refl; spelled = h.first }); second = fields_only n ks fs h.rest (omega (arith, e)) h.second }

-- ---- heads

-- the levels inside an object
abbrev pub levels_inside : ℕ → WantedPairs → ℕ
levels_inside n (entries_of_object k) = n - 1
levels_inside n (fields_of_row ks) = n

-- a head, and then all that it makes wanted
object_whole : (n k : ℕ) (us : Entries) (head x : List ℕ) → ObjectHead n k head → FillsPairs (n - 1) (entries_of_object k) us x → FillsNode n (object us) (head ++ x)
object_whole zero k us head x h f = absurd h
object_whole (suc n) k us head x h (count, f) =
    let down : suc n - 1 ≡ n = omega arith in
    let all = entries_whole n us x (subst (λ m. Each (FillsPair m) (entries us) x) down f) in
    record {
      tree = object all.written;
      stands = ap object all.stands;
      spelled = then_assoc (Bytes (0x01 ∷ [])) (SpellsCount (length (entries all.written))) (Each (SpellsEntry (Spells n)) (entries all.written)) head x
          (subst (λ m. (Bytes (0x01 ∷ []) then SpellsCount m) head) (sym count ∙ all.count) h) all.spelled;
    }

-- what is due is an object, where such a head and then all that it makes wanted stands
pub pairs_whole : (n : ℕ) (d : Due) (w : WantedPairs) (us : Entries) (head x : List ℕ) → BeginsPairs n d w head → FillsPairs (levels_inside n w) w us x → Fills n d (object us) (head ++ x)
pairs_whole n node_due (entries_of_object k) us head x h f = object_whole n k us head x h f
pairs_whole n field_due (entries_of_object k) us head x h f = inr (object_whole n k us head x h f)
pairs_whole n (row_due ks) (fields_of_row ls) us head x (same, none) (names, f) =
    subst (λ b. FillsRow n ks (object us) (b ++ x)) (sym none) (fields_whole n us ks x (names ∙ same) f)
pairs_whole n nothing_due (entries_of_object k) us head x h f = absurd h
pairs_whole n nothing_due (fields_of_row ls) us head x h f = absurd h
pairs_whole n node_due (fields_of_row ls) us head x h f = absurd h
pairs_whole n field_due (fields_of_row ls) us head x h f = absurd h
pairs_whole n key_due (entries_of_object k) us head x h f = absurd h
pairs_whole n key_due (fields_of_row ls) us head x h f = absurd h
pairs_whole n (name_due s) (entries_of_object k) us head x h f = absurd h
pairs_whole n (name_due s) (fields_of_row ls) us head x h f = absurd h
pairs_whole n (row_due ks) (entries_of_object k) us head x h f = absurd h

-- what is left of a text after a front
pub record After (V : Format) (head all : List ℕ) : Type 0 where
  pub left : List ℕ
  pub whole : all ≡ head ++ left
  pub wanted : V left

spelled_only : (n k : ℕ) (ts : Entries) (head all rest ys : List ℕ) → ObjectHead n k head → Spells n (object ts) all → all ++ rest ≡ head ++ ys → After (FillsPairs (n - 1) (entries_of_object k) (expand_entries ts)) head all
spelled_only zero k ts head all rest ys h s e = absurd h
spelled_only (suc n) k ts head all rest ys h s e =
    let down : suc n - 1 ≡ n = omega arith in
    let one : all ≡ 0x01 ∷ (s.second.front ++ s.second.rest) = s.whole ∙ ap (λ c. c ++ s.rest) s.first ∙ ap (λ c. 0x01 ∷ c) s.second.whole in
    let two : head ≡ 0x01 ∷ h.rest = h.whole ∙ ap (λ c. c ++ h.rest) h.first in
    let tails : 0x01 ∷ ((s.second.front ++ s.second.rest) ++ rest) ≡ 0x01 ∷ (h.rest ++ ys) = sym (ap (λ c. c ++ rest) one) ∙ e ∙ ap (λ c. c ++ ys) two in
    let inner : s.second.front ++ (s.second.rest ++ rest) ≡ h.rest ++ ys = sym (append_assoc s.second.front s.second.rest rest) ∙ append_cancel_left (0x01 ∷ []) _ _ tails in
    let same = one_int s.second.front h.rest (s.second.rest ++ rest) ys (pos (length (entries ts))) (pos k) s.second.first h.second inner in
    let count : length (entries ts) ≡ k = omega (arith, ints, same.1) in
    record {
      left = s.second.rest;
      whole = one ∙ ap (λ c. 0x01 ∷ (c ++ s.second.rest)) same.0 ∙ ap (λ c. c ++ s.second.rest) (sym two);
      wanted = (as_many_entries ts ∙ count, subst (λ m. Each (FillsPair m) (entries (expand_entries ts)) s.second.rest) (sym down) (entries_only n ts s.second.rest s.second.second));
    }

object_only : (n k : ℕ) (us : Entries) (t : Tree) (head all rest ys : List ℕ) → object us ≡ expand t → ObjectHead n k head → Spells n t all → all ++ rest ≡ head ++ ys → After (FillsPairs (n - 1) (entries_of_object k) us) head all
object_only n k us null head all rest ys e h s q = absurd cc
object_only n k us (boolean v) head all rest ys e h s q = absurd cc
object_only n k us (integer v) head all rest ys e h s q = absurd cc
object_only n k us (real v) head all rest ys e h s q = absurd cc
object_only n k us (bytes v) head all rest ys e h s q = absurd cc
object_only n k us (text v) head all rest ys e h s q = absurd cc
object_only n k us (array ts) head all rest ys e h s q = absurd cc
object_only n k us (template ks rs) head all rest ys e h s q = absurd cc
object_only n k us (object ts) head all rest ys e h s q =
    let same : us ≡ expand_entries ts = cc in
    subst (λ vs. After (FillsPairs (n - 1) (entries_of_object k) vs) head all) (sym same) (spelled_only n k ts head all rest ys h s q)

-- an object that is due and begins with such a head goes on with all that it makes wanted
pub pairs_only : (n : ℕ) (d : Due) (w : WantedPairs) (us : Entries) (head all rest ys : List ℕ) → BeginsPairs n d w head → Fills n d (object us) all → all ++ rest ≡ head ++ ys → After (FillsPairs (levels_inside n w) w us) head all
pairs_only n node_due (entries_of_object k) us head all rest ys h f e = object_only n k us f.tree head all rest ys f.stands h f.spelled e
pairs_only n field_due (entries_of_object k) us head all rest ys h (inl f) e = absurd (let z = f.0 in cc)
pairs_only n field_due (entries_of_object k) us head all rest ys h (inr f) e = object_only n k us f.tree head all rest ys f.stands h f.spelled e
pairs_only n (row_due ks) (fields_of_row ls) us head all rest ys (same, none) f e =
    let stands : object us ≡ object (expand_fields ks f.row) = f.stands in
    let rows : us ≡ expand_fields ks f.row = cc in
    record {
      left = all;
      whole = sym (ap (λ b. b ++ all) none);
      wanted = (
        ap (λ vs. map (λ e. e.0) (entries vs)) rows ∙ names_of_fields ks f.row f.even ∙ sym same,
        subst (λ vs. Each (λ e. Fills n field_due e.1) (entries vs) all) (sym rows) (fields_only n ks f.row all f.even f.spelled),
      );
    }
pairs_only n nothing_due (entries_of_object k) us head all rest ys h f e = absurd h
pairs_only n nothing_due (fields_of_row ls) us head all rest ys h f e = absurd h
pairs_only n node_due (fields_of_row ls) us head all rest ys h f e = absurd h
pairs_only n field_due (fields_of_row ls) us head all rest ys h f e = absurd h
pairs_only n key_due (entries_of_object k) us head all rest ys h f e = absurd h
pairs_only n key_due (fields_of_row ls) us head all rest ys h f e = absurd h
pairs_only n (name_due s) (entries_of_object k) us head all rest ys h f e = absurd h
pairs_only n (name_due s) (fields_of_row ls) us head all rest ys h f e = absurd h
pairs_only n (row_due ks) (entries_of_object k) us head all rest ys h f e = absurd h

-- ---- an object begins with a head

pub record Begins (n : ℕ) (d : Due) (all : List ℕ) : Type 0 where
  pub wanted : WantedPairs
  pub head : List ℕ
  pub rest : List ℕ
  pub whole : all ≡ head ++ rest
  pub begins : BeginsPairs n d wanted head

record ObjectBegins (n : ℕ) (all : List ℕ) : Type 0 where
  pub count : ℕ
  pub head : List ℕ
  pub rest : List ℕ
  pub whole : all ≡ head ++ rest
  pub begins : ObjectHead n count head

spelled_begins : (n : ℕ) (ts : Entries) (all : List ℕ) → Spells n (object ts) all → ObjectBegins n all
spelled_begins zero ts all s = absurd s
spelled_begins (suc n) ts all s = record {
  count = length (entries ts);
  head = s.front ++ s.second.front;
  rest = s.second.rest;
  whole = s.whole ∙ ap (λ c. s.front ++ c) s.second.whole ∙ sym (append_assoc s.front s.second.front s.second.rest);
  begins = record { front = s.front; rest = s.second.front; whole = refl; first = s.first; second = s.second.first };
}

object_begins : (n : ℕ) (us : Entries) (t : Tree) (all : List ℕ) → object us ≡ expand t → Spells n t all → ObjectBegins n all
object_begins n us null all e s = absurd cc
object_begins n us (boolean v) all e s = absurd cc
object_begins n us (integer v) all e s = absurd cc
object_begins n us (real v) all e s = absurd cc
object_begins n us (bytes v) all e s = absurd cc
object_begins n us (text v) all e s = absurd cc
object_begins n us (array ts) all e s = absurd cc
object_begins n us (template ks rs) all e s = absurd cc
object_begins n us (object ts) all e s = spelled_begins n ts all s

pub pairs_begin : (n : ℕ) (d : Due) (us : Entries) (all : List ℕ) → Fills n d (object us) all → Begins n d all
pairs_begin n nothing_due us all f = absurd f
pairs_begin n node_due us all f = let b = object_begins n us f.tree all f.stands f.spelled in record { wanted = entries_of_object b.count; head = b.head; rest = b.rest; whole = b.whole; begins = b.begins }
pairs_begin n key_due us all f = absurd (key_no_object f.key us f.stands)
pairs_begin n field_due us all (inl f) = absurd (let z = f.0 in cc)
pairs_begin n field_due us all (inr f) = let b = object_begins n us f.tree all f.stands f.spelled in record { wanted = entries_of_object b.count; head = b.head; rest = b.rest; whole = b.whole; begins = b.begins }
pairs_begin n (name_due k) us all f = absurd (key_no_object k us f.0)
pairs_begin n (row_due ks) us all f = record { wanted = fields_of_row ks; head = []; rest = all; whole = refl; begins = (refl, refl) }
