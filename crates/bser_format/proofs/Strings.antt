-- What bytes, texts and characters read, reading them passes over.
use Rattle.std.proofs.Common.{◌≡◌, ℕ, Bool, true, false, cond, List, [], ◌∷◌, ◌++◌, Option, Some, None, refl, sym, ap, ◌∙◌, inl, inr, chars, option_map, option_and_then}
use Rattle.std.proofs.lemmas.Str.{is_utf8-from_IsUtf8}
use Rattle.std.specs.Str.{is_utf8}
use Rattle.bser_format.specs.Tree.{Tree, null, boolean, integer, real, bytes, text, array, object, template}
use Rattle.bser_format.specs.Expand.{expand, key_tree}
use Rattle.bser_format.specs.Grammar.{Spells, SpellsString}
use Rattle.bser_format.specs.Content.{Content, byte_list, Meaning}
use Rattle.bser_format.specs.ReadsScalars.{string_bytes_of, utf8_of, reads_slice, reads_string, reads_char, one_char}
use Rattle.bser_format.proofs.Fronts.{string_reads, utf8_reads, kept}
use Rattle.bser_format.specs.Named.{Answer, reads, refuses, Reader, and_then, next, utf8}
use Rattle.bser_format.specs.DueReaders.{Seen, tag, bytes_at, text_at, value_tag, key_tag}
use Rattle.bser_format.specs.Asks as asks
use Rattle.bser_format.specs.Asks.{done, asks_bytes, asks_string, asks_char}
use Rattle.bser_format.specs.TypeLaws.{Passes}
use Rattle.bser_format.proofs.Dues.{Handles, passes_by}

-- ---- bytes

-- a string after a look at its tag
pub looked : (look : ℕ → Reader Seen) → ((y : List ℕ) → look 0x02 y ≡ reads (tag 0x02) y) → ((y : List ℕ) → look 0x0d y ≡ reads (tag 0x0d) y) → (s b x : List ℕ) → SpellsString s b
    → and_then bytes_at (and_then look (next (b ++ x))) ≡ reads s x
looked look two thirteen s b x (inl h) =
    ap (λ l. and_then bytes_at (and_then look (next (l ++ x)))) (h.whole ∙ ap (λ l. l ++ h.rest) h.first)
    ∙ ap (and_then bytes_at) (two (h.rest ++ x)) ∙ string_reads s h.rest x h.second
looked look two thirteen s b x (inr h) =
    ap (λ l. and_then bytes_at (and_then look (next (l ++ x)))) (h.whole ∙ ap (λ l. l ++ h.rest) h.first)
    ∙ ap (and_then bytes_at) (thirteen (h.rest ++ x)) ∙ utf8_reads s h.rest x h.second

pub string_node : (skips : Bool) (n : ℕ) (t : Tree) (s b x : List ℕ) → string_bytes_of (expand t) ≡ Some s → Spells n t b → and_then bytes_at (and_then (value_tag skips) (next (b ++ x))) ≡ reads s x
string_node skips n (bytes v) s b x e h = looked (value_tag skips) (λ y. refl) (λ y. refl) v b x (inl h) ∙ ap (λ w. reads w x) (cc)
string_node skips n (text v) s b x e h = looked (value_tag skips) (λ y. refl) (λ y. refl) v b x (inr h) ∙ ap (λ w. reads w x) (cc)
string_node skips n null s b x e h = absurd cc
string_node skips n other s b x e h = absurd cc

-- the bytes of a key
key_bytes : (s v : List ℕ) → string_bytes_of (key_tree s) ≡ Some v → s ≡ v
key_bytes s v = go (is_utf8 s)
  where
    go : (b : Bool) → string_bytes_of (cond b (text s) (bytes s)) ≡ Some v → s ≡ v
    go true e = cc
    go false e = cc

-- a type that reads a string's bytes, and then f
bytes_handled : (f : List ℕ → Reader Unit) (R : Meaning) → ((u : Tree) (c : Content) → R u ≡ Some c → (s : List ℕ) × (string_bytes_of u ≡ Some s) × ((y : List ℕ) → f s y ≡ reads tt y)) → Handles (λ n. bytes_at) (λ o n. f) R
bytes_handled f R holds = record {
  node = λ o n skips t b x c h r. let w = holds (expand t) c r in ap (and_then f) (string_node skips n t w.0 b x w.1 h) ∙ w.2 x;
  skipped = λ o n x c r. absurd (let w = holds null c r in let e = w.1 in cc);
  key = λ o n s b x c h r. let w = holds (key_tree s) c r in ap (and_then f) (looked key_tag (λ y. refl) (λ y. refl) s b x h) ∙ ap (λ v. f v x) (key_bytes s w.0 w.1) ∙ w.2 x;
  named = λ o n s x c r. let w = holds (key_tree s) c r in ap (λ v. f v x) (key_bytes s w.0 w.1) ∙ w.2 x;
  of_row = λ o n ks fs b x c even h r. absurd (let w = holds _ c r in let e = w.1 in cc);
}

slice_holds : (o : Option (List ℕ)) (c : Content) → option_map byte_list o ≡ Some c → (s : List ℕ) × (o ≡ Some s) × ((y : List ℕ) → done s y ≡ reads tt y)
slice_holds None c e = absurd cc
slice_holds (Some s) c e = (s, refl, λ y. refl)

pub bytes_passes : Passes asks_bytes reads_slice
bytes_passes = passes_by (bytes_handled done reads_slice (λ u c r. slice_holds (string_bytes_of u) c r))

-- ---- texts

text_of_bytes : (a : Answer Seen) (s y : List ℕ) → and_then bytes_at a ≡ reads s y → is_utf8 s ≡ true → and_then text_at a ≡ reads s y
text_of_bytes (reads v w) s y e u = ap (and_then utf8) e ∙ kept s y u
text_of_bytes (refuses f) s y e u = absurd cc

-- the bytes of a text are UTF-8
checked : (v s : List ℕ) → cond (is_utf8 v) (Some v) None ≡ Some s → (v ≡ s) × (is_utf8 s ≡ true)
checked v s = go (is_utf8 v) refl
  where
    go : (b : Bool) → is_utf8 v ≡ b → cond b (Some v) None ≡ Some s → (v ≡ s) × (is_utf8 s ≡ true)
    go true u e = let same : v ≡ s = cc in (same, rw (sym same) u)
    go false u e = absurd cc

text_node : (skips : Bool) (n : ℕ) (t : Tree) (s b x : List ℕ) → utf8_of (expand t) ≡ Some s → Spells n t b → and_then text_at (and_then (value_tag skips) (next (b ++ x))) ≡ reads s x
text_node skips n (bytes v) s b x e h =
    let k = checked v s e in
    text_of_bytes (and_then (value_tag skips) (next (b ++ x))) s x (looked (value_tag skips) (λ y. refl) (λ y. refl) v b x (inl h) ∙ ap (λ w. reads w x) k.0) k.1
text_node skips n (text v) s b x e h =
    let same : v ≡ s = cc in
    text_of_bytes (and_then (value_tag skips) (next (b ++ x))) s x (looked (value_tag skips) (λ y. refl) (λ y. refl) v b x (inr h) ∙ ap (λ w. reads w x) same) (ap is_utf8 (sym same) ∙ is_utf8-from_IsUtf8 v h.second.second.0)
text_node skips n null s b x e h = absurd cc
text_node skips n other s b x e h = absurd cc

-- a key that is UTF-8
key_text : (s v : List ℕ) → utf8_of (key_tree s) ≡ Some v → (s ≡ v) × (is_utf8 s ≡ true)
key_text s v = go (is_utf8 s) refl
  where
    go : (b : Bool) → is_utf8 s ≡ b → utf8_of (cond b (text s) (bytes s)) ≡ Some v → (s ≡ v) × (is_utf8 s ≡ true)
    go true u e = (cc, u)
    go false u e = let k : cond (is_utf8 s) (Some s) None ≡ Some v = e in absurd (let m = rw u at k in cc)

-- a type that reads a text, and then f
pub texts_handled : (f : List ℕ → Reader Unit) (R : Meaning) → ((u : Tree) (c : Content) → R u ≡ Some c → (s : List ℕ) × (utf8_of u ≡ Some s) × ((y : List ℕ) → f s y ≡ reads tt y)) → Handles (λ n. text_at) (λ o n. f) R
texts_handled f R holds = record {
  node = λ o n skips t b x c h r. let w = holds (expand t) c r in ap (and_then f) (text_node skips n t w.0 b x w.1 h) ∙ w.2 x;
  skipped = λ o n x c r. absurd (let w = holds null c r in let e = w.1 in cc);
  key = λ o n s b x c h r.
      let w = holds (key_tree s) c r in let k = key_text s w.0 w.1 in
      ap (and_then f) (text_of_bytes (and_then key_tag (next (b ++ x))) s x (looked key_tag (λ y. refl) (λ y. refl) s b x h) k.1) ∙ ap (λ v. f v x) k.0 ∙ w.2 x;
  named = λ o n s x c r. let w = holds (key_tree s) c r in let k = key_text s w.0 w.1 in ap (and_then f) (kept s x k.1) ∙ ap (λ v. f v x) k.0 ∙ w.2 x;
  of_row = λ o n ks fs b x c even h r. absurd (let w = holds _ c r in let e = w.1 in cc);
}

pub string_passes : Passes asks_string reads_string
string_passes = passes_by (texts_handled done reads_string (λ u c r. slice_holds (utf8_of u) c r))

one_of : (s : List ℕ) (c : Content) → one_char s ≡ Some c → (y : List ℕ) → asks.one_char s y ≡ reads tt y
one_of [] c e y = absurd cc
one_of (a ∷ []) c e y = refl
one_of (a ∷ z ∷ s) c e y = absurd cc

char_holds : (o : Option (List ℕ)) (c : Content) → option_and_then (λ s. one_char (chars s)) o ≡ Some c → (s : List ℕ) × (o ≡ Some s) × ((y : List ℕ) → asks.one_char (chars s) y ≡ reads tt y)
char_holds None c e = absurd cc
char_holds (Some s) c e = (s, refl, one_of (chars s) c e)

pub char_passes : Passes asks_char reads_char
char_passes = passes_by (texts_handled (λ s. asks.one_char (chars s)) reads_char (λ u c r. char_holds (utf8_of u) c r))
