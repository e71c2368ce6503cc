-- What is seen where a tree is due tells null and arrays from the others.
use Rattle.std.proofs.Common.{◌≡◌, ℕ, zero, suc, ℤ, Bool, true, false, cond, List, [], ◌∷◌, ◌++◌, refl, sym, ap, ◌∙◌, inl, inr}
use Rattle.std.specs.Str.{is_utf8}
use Rattle.bser_format.specs.Tree.{Tree, null, boolean, integer, real, bytes, text, array, object, template}
use Rattle.bser_format.specs.Expand.{expand, key_tree}
use Rattle.bser_format.specs.Grammar.{Spells, SpellsString, int8, int16, int32, int64, IntSize, int_bytes}
use Rattle.bser_format.specs.Expected.{Due, Fills, nothing_due, node_due, key_due, field_due, name_due, row_due}
use Rattle.bser_format.specs.Named.{Reader, Answer, reads, and_then, next}
use Rattle.bser_format.specs.DueReaders.{Seen, tag, name, row, value_tag, key_tag, seen}
use Rattle.bser_format.specs.Asks.{by_sight, is_null, is_sequence}

-- null
abbrev pub null_tree : Tree → Bool
null_tree null = true
null_tree _ = false

-- an array
abbrev pub array_tree : Tree → Bool
array_tree (array ts) = true
array_tree _ = false

-- what is seen off these bytes by this look, whatever follows them
pub record Sight (look : Reader Seen) (u : Tree) (b : List ℕ) : Type 0 where
  pub shown : Seen
  pub left : List ℕ → List ℕ
  pub sees : (x : List ℕ) → look (b ++ x) ≡ reads shown (left x)
  pub none : is_null shown ≡ null_tree u
  pub sequence : is_sequence shown ≡ array_tree u

-- a first byte that is such a tag
abbrev starts : (ℕ → Reader Seen) → Reader Seen
starts look b = and_then look (next b)

at_tag : (look : ℕ → Reader Seen) (t : ℕ) (u : Tree) (b rest : List ℕ) → b ≡ t ∷ rest → ((y : List ℕ) → look t y ≡ reads (tag t) y) → is_null (tag t) ≡ null_tree u → is_sequence (tag t) ≡ array_tree u → Sight (starts look) u b
at_tag look t u b rest e is n s = record { shown = tag t; left = λ x. rest ++ x; sees = λ x. ap (λ l. starts look (l ++ x)) e ∙ is (rest ++ x); none = n; sequence = s }

int_sight : (skips : Bool) (s : IntSize) (v : ℤ) (b : List ℕ) → b ≡ int_bytes s v → Sight (starts (value_tag skips)) (integer v) b
int_sight skips int8 v b e = at_tag (value_tag skips) 0x03 (integer v) b _ e (λ y. refl) refl refl
int_sight skips int16 v b e = at_tag (value_tag skips) 0x04 (integer v) b _ e (λ y. refl) refl refl
int_sight skips int32 v b e = at_tag (value_tag skips) 0x05 (integer v) b _ e (λ y. refl) refl refl
int_sight skips int64 v b e = at_tag (value_tag skips) 0x06 (integer v) b _ e (λ y. refl) refl refl

node_sight : (skips : Bool) (n : ℕ) (t : Tree) (b : List ℕ) → Spells n t b → Sight (starts (value_tag skips)) (expand t) b
node_sight skips n null b h = at_tag (value_tag skips) 0x0a null b [] h (λ y. refl) refl refl
node_sight skips n (boolean true) b h = at_tag (value_tag skips) 0x08 (boolean true) b [] h (λ y. refl) refl refl
node_sight skips n (boolean false) b h = at_tag (value_tag skips) 0x09 (boolean false) b [] h (λ y. refl) refl refl
node_sight skips n (integer v) b h = int_sight skips h.size v b h.spelled
node_sight skips n (real v) b h = at_tag (value_tag skips) 0x07 (real v) b _ h.1 (λ y. refl) refl refl
node_sight skips n (bytes v) b h = at_tag (value_tag skips) 0x02 (bytes v) b h.rest (h.whole ∙ ap (λ l. l ++ h.rest) h.first) (λ y. refl) refl refl
node_sight skips n (text v) b h = at_tag (value_tag skips) 0x0d (text v) b h.rest (h.whole ∙ ap (λ l. l ++ h.rest) h.first) (λ y. refl) refl refl
node_sight skips zero (array ts) b h = absurd h
node_sight skips (suc zero) (template ks rs) b h = absurd h
node_sight skips (suc n) (array ts) b h = at_tag (value_tag skips) 0x00 _ b h.rest (h.whole ∙ ap (λ l. l ++ h.rest) h.first) (λ y. refl) refl refl
node_sight skips (suc n) (object es) b h = at_tag (value_tag skips) 0x01 _ b h.rest (h.whole ∙ ap (λ l. l ++ h.rest) h.first) (λ y. refl) refl refl
node_sight skips (suc (suc n)) (template ks rs) b h = let k = h.1 in at_tag (value_tag skips) 0x0b _ b k.rest (k.whole ∙ ap (λ l. l ++ k.rest) k.first) (λ y. refl) refl refl
node_sight skips zero other b h = absurd h

-- a key is neither null nor an array
key_not : (s : List ℕ) → (false ≡ null_tree (key_tree s)) × (false ≡ array_tree (key_tree s))
key_not s = go (is_utf8 s)
  where
    go : (b : Bool) → (false ≡ null_tree (cond b (text s) (bytes s))) × (false ≡ array_tree (cond b (text s) (bytes s)))
    go true = (refl, refl)
    go false = (refl, refl)

key_sight : (s b : List ℕ) → SpellsString s b → Sight (starts key_tag) (key_tree s) b
key_sight s b (inl h) = let k = key_not s in at_tag key_tag 0x02 (key_tree s) b h.rest (h.whole ∙ ap (λ l. l ++ h.rest) h.first) (λ y. refl) k.0 k.1
key_sight s b (inr h) = let k = key_not s in at_tag key_tag 0x0d (key_tree s) b h.rest (h.whole ∙ ap (λ l. l ++ h.rest) h.first) (λ y. refl) k.0 k.1

-- of an equal tree
as_tree : (look : Reader Seen) (u v : Tree) (b : List ℕ) → v ≡ u → Sight look u b → Sight look v b
as_tree look u v b e s = record { shown = s.shown; left = s.left; sees = s.sees; none = s.none ∙ ap null_tree (sym e); sequence = s.sequence ∙ ap array_tree (sym e) }

pub sight : (o n : ℕ) (d : Due) (u : Tree) (b : List ℕ) → Fills n d u b → Sight (seen o d) u b
sight o n nothing_due u b f = absurd f
sight o n node_due u b f = as_tree (seen o node_due) (expand f.tree) u b f.stands (node_sight false n f.tree b f.spelled)
sight o n key_due u b f = as_tree (seen o key_due) (key_tree f.key) u b f.stands (key_sight f.key b f.spelled)
sight o n field_due u b (inl f) = as_tree (seen o field_due) null u b f.0 (at_tag (value_tag true) 0x0c null b [] f.1 (λ y. refl) refl refl)
sight o n field_due u b (inr f) = as_tree (seen o field_due) (expand f.tree) u b f.stands (node_sight true n f.tree b f.spelled)
sight o n (name_due s) u b f = let k = key_not s in as_tree (seen o (name_due s)) (key_tree s) u b f.0 (record { shown = name s; left = λ x. b ++ x; sees = λ x. refl; none = k.0; sequence = k.1 })
sight o n (row_due ks) u b f = as_tree (seen o (row_due ks)) _ u b f.stands (record { shown = row ks; left = λ x. b ++ x; sees = λ x. refl; none = refl; sequence = refl })

-- the way that is taken
pub way : (is : Seen → Bool) (r s : Reader Unit) (a : Answer Seen) (v : Seen) (y b : List ℕ) (c : Bool) → a ≡ reads v y → is v ≡ c → by_sight is r s a b ≡ cond c (r b) (s b)
way is r s a v y b c e i = ap (λ z. by_sight is r s z b) e ∙ ap (λ z. cond z (r b) (s b)) i
