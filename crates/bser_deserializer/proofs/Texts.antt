-- Strings that were taken, and what is read of them.
use Rattle.std.proofs.Common.{◌≡◌, inl, inr, ℕ, zero, suc, Bool, true, false, cond, ◌==◌, ◌<◌, ◌+◌, List, [], ◌∷◌, length, map, get_or, Some, refl, sym, ap, subst, ◌∙◌, append-nil, arith, IsUtf8}
use Rattle.std.specs.Prelude.{option_map}
use Rattle.std.specs.Str.{is_utf8}
use Rattle.std.proofs.KnownBytes.{Consumes-nil}
use Rattle.std.proofs.lemmas.Str.{is_utf8-from_IsUtf8}
use Rattle.bser_format.specs.Tree as trees
use Rattle.bser_format.specs.Tree.{Tree, null}
use Rattle.bser_format.specs.Expand.{key_tree}
use Rattle.bser_format.specs.Grammar.{SpellsString}
use Rattle.bser_format.specs.Content.{byte_list}
use Rattle.bser_format.specs.ReadsScalars.{string_bytes_of, utf8_of, reads_slice, reads_string}
use Rattle.bser_format.specs.Expected.{Due, Fills, FillsNode, nothing_due, node_due, key_due, field_due, name_due, row_due}
use Rattle.bser_format.specs.DueReaders.{is_key_tag}
use Rattle.bser_source.specs.Window.{Window, Within, Took}
use Rattle.bser_source.proofs.Windows.{took_then}
use Rattle.bser_bunser.specs.Tagged.{TookCounted}
use Rattle.bser_bunser.specs.Tokens.{tag_of_string}
use Rattle.bser_deserializer.specs.Dues.{IsTagged, name_at}
use Rattle.bser_deserializer.specs.State.{State, past}
use Rattle.bser_deserializer.specs.Reading.{Answers}
use Rattle.bser_deserializer.specs.Strings.{SpellsUnder, StringDue, TookBytes}
use Rattle.bser_deserializer.proofs.Strings.{key_tags}

at_tag : (d : Due) (m : Bool) (s b : List ℕ) → IsTagged d → SpellsUnder m s b → StringDue d m s b
at_tag nothing_due m s b t h = absurd t
at_tag node_due m s b t h = h
at_tag key_due m s b t h = h
at_tag field_due m s b t h = h
at_tag (name_due k) m s b t h = absurd t
at_tag (row_due ks) m s b t h = absurd t

tag_told : (t : ℕ) → is_key_tag t ≡ true → t ≡ tag_of_string (t == 0x0d)
tag_told t is = elim (key_tags t is) [
  | inl e ↦ subst (λ z. z ≡ tag_of_string (z == 0x0d)) (sym e) refl
  | inr e ↦ subst (λ z. z ≡ tag_of_string (z == 0x0d)) (sym e) refl
]

-- a string or key after its tag
pub string_taken : (t : ℕ) (s : List ℕ) (a b : State) (m : Window) → IsTagged a.due → is_key_tag t ≡ true → Took a.source m (t ∷ []) → TookCounted m b.source s → b ≡ past a b.source
    → TookBytes a b (t == 0x0d) s
string_taken t s a b m is key first rest state = record {
  text = t ∷ rest.text;
  filled = at_tag a.due (t == 0x0d) s (t ∷ rest.text) is (record {
    front = t ∷ [];
    rest = rest.text;
    whole = refl;
    first = ap (λ z. z ∷ []) (tag_told t key);
    second = record { front = rest.spelled.number; rest = s; whole = rest.spelled.whole; first = rest.spelled.count; second = refl };
  });
  took = took_then a.source m b.source (t ∷ []) rest.text first rest.took;
  state = state;
}

-- a source that works takes nothing
pub took_nothing : (a : Window) → a.failed ≡ false → Took a a []
took_nothing a working = record {
  more = [];
  bytes = append-nil a.buffered;
  device = Consumes-nil a.beyond;
  octets = tt;
  within = λ x h. subst (λ n. Within n a) (let e : x + length {A = ℕ} [] ≡ x = omega arith in e) h;
  count = omega arith;
  limit = refl;
  lends = refl;
  working = working;
  failed = working;
  failures = refl;
  through = refl;
}

-- the key of a row's field
pub name_taken : (k s : List ℕ) (a b : State) → a.due ≡ name_due k → s ≡ k → a.source.failed ≡ false → b ≡ past a a.source → TookBytes a b false s
name_taken k s a b due same working state = record {
  text = [];
  filled = subst (λ d. StringDue d false s []) (sym due) ((same, refl), refl);
  took = subst (λ w. Took a.source w []) (sym (ap (λ z. z.source) state)) (took_nothing a.source working);
  state = state ∙ ap (past a) (sym (ap (λ z. z.source) state));
}

-- the key at a place within the keys
pub named_at : {K : Type 0} (kept : K → List ℕ) (place : ℕ) (ks : List K) (k : K) → place < length ks → k ≡ get_or ks place k → name_at place (map kept ks) ≡ name_due (kept k)
named_at kept place [] k h e = absurd (omega (arith, h))
named_at kept zero (x ∷ ks) k h e = ap (λ y. name_due (kept y)) (sym e)
named_at kept (suc place) (x ∷ ks) k h e = named_at kept place ks k (omega (arith, h)) e

-- ---- what was read

-- the tree of a string that is due
abbrev string_tree : Bool → List ℕ → Tree
string_tree true s = trees.text s
string_tree false s = trees.bytes s

abbrev due_tree : Due → Bool → List ℕ → Tree
due_tree node_due m s = string_tree m s
due_tree key_due m s = key_tree s
due_tree field_due m s = string_tree m s
due_tree (name_due k) m s = key_tree s
due_tree _ m s = null

spelled_under : (m : Bool) (s b : List ℕ) → SpellsUnder m s b → (m ≡ true → IsUtf8 s) → SpellsString s b
spelled_under true s b h good = inr (record { front = h.front; rest = h.rest; whole = h.whole; first = h.first; second = record { front = h.second.front; rest = h.second.rest; whole = h.second.whole; first = h.second.first; second = (good refl, h.second.second) } })
spelled_under false s b h good = inl h

node_filled : (n : ℕ) (m : Bool) (s b : List ℕ) → SpellsUnder m s b → (m ≡ true → IsUtf8 s) → FillsNode n (string_tree m s) b
node_filled n true s b h good = record {
  tree = trees.text s;
  stands = refl;
  spelled = record { front = h.front; rest = h.rest; whole = h.whole; first = h.first; second = record { front = h.second.front; rest = h.second.rest; whole = h.second.whole; first = h.second.first; second = (good refl, h.second.second) } };
}
node_filled n false s b h good = record { tree = trees.bytes s; stands = refl; spelled = h }

due_filled : (n : ℕ) (d : Due) (m : Bool) (s b : List ℕ) → StringDue d m s b → (m ≡ true → IsUtf8 s) → Fills n d (due_tree d m s) b
due_filled n nothing_due m s b h good = absurd h
due_filled n node_due m s b h good = node_filled n m s b h good
due_filled n key_due m s b h good = record { key = s; stands = refl; spelled = spelled_under m s b h good }
due_filled n field_due m s b h good = inr (node_filled n m s b h good)
due_filled n (name_due k) m s b h good = (ap key_tree h.0.0, h.1)
due_filled n (row_due ks) m s b h good = absurd h

key_string : (s : List ℕ) → string_bytes_of (key_tree s) ≡ Some s
key_string s = go (is_utf8 s)
  where
    go : (b : Bool) → string_bytes_of (cond b (trees.text s) (trees.bytes s)) ≡ Some s
    go true = refl
    go false = refl

node_string : (m : Bool) (s : List ℕ) → string_bytes_of (string_tree m s) ≡ Some s
node_string true s = refl
node_string false s = refl

tree_string : (d : Due) (m : Bool) (s b : List ℕ) → StringDue d m s b → string_bytes_of (due_tree d m s) ≡ Some s
tree_string nothing_due m s b h = absurd h
tree_string node_due m s b h = node_string m s
tree_string key_due m s b h = key_string s
tree_string field_due m s b h = node_string m s
tree_string (name_due k) m s b h = key_string s
tree_string (row_due ks) m s b h = absurd h

key_text : (s : List ℕ) → IsUtf8 s → utf8_of (key_tree s) ≡ Some s
key_text s good = rw (is_utf8-from_IsUtf8 s good) refl

node_text : (m : Bool) (s : List ℕ) → IsUtf8 s → utf8_of (string_tree m s) ≡ Some s
node_text true s good = refl
node_text false s good = rw (is_utf8-from_IsUtf8 s good) refl

tree_text : (d : Due) (m : Bool) (s b : List ℕ) → StringDue d m s b → IsUtf8 s → utf8_of (due_tree d m s) ≡ Some s
tree_text nothing_due m s b h good = absurd h
tree_text node_due m s b h good = node_text m s good
tree_text key_due m s b h good = key_text s good
tree_text field_due m s b h good = node_text m s good
tree_text (name_due k) m s b h good = key_text s good
tree_text (row_due ks) m s b h good = absurd h

-- bytes that were taken, which are UTF-8 under a text's tag
pub bytes_answer : {A : Type 0} (held : A → List ℕ) (a b : State) (m : Bool) (v : A) → TookBytes a b m (held v) → (m ≡ true → IsUtf8 (held v)) → Answers reads_slice (λ w c. c ≡ byte_list (held w)) a b v
bytes_answer held a b m v h good = record {
  tree = due_tree a.due m (held v);
  content = byte_list (held v);
  text = h.text;
  filled = due_filled a.levels a.due m (held v) h.text h.filled good;
  read = ap (option_map byte_list) (tree_string a.due m (held v) h.text h.filled);
  held = refl;
  took = h.took;
  state = h.state;
}

-- the same as a text
pub text_answer : {A : Type 0} (held : A → List ℕ) (a b : State) (m : Bool) (v : A) (s : List ℕ) → held v ≡ s → TookBytes a b m s → IsUtf8 s → Answers reads_string (λ w c. c ≡ byte_list (held w)) a b v
text_answer held a b m v s same h good = record {
  tree = due_tree a.due m s;
  content = byte_list s;
  text = h.text;
  filled = due_filled a.levels a.due m s h.text h.filled (λ e. good);
  read = ap (option_map byte_list) (tree_text a.due m s h.text h.filled good);
  held = ap byte_list (sym same);
  took = h.took;
  state = h.state;
}
