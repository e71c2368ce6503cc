-- A call that reads, by what may be due.
use Rattle.std.proofs.Common.{◌≡◌, ℕ, Bool, true, false, cond, List, ◌++◌, length, Some, None, sym, ap, ◌∙◌, inl, inr}
use Rattle.std.specs.Str.{is_utf8}
use Rattle.bser_format.specs.Tree.{Tree, null, bytes, text, object, Entries, Fields, fields}
use Rattle.bser_format.specs.Expand.{expand, expand_fields, key_tree}
use Rattle.bser_format.specs.Grammar.{Each, Spells, SpellsString, SpellsField}
use Rattle.bser_format.specs.Content.{Content, Meaning}
use Rattle.bser_format.specs.Expected.{nothing_due, node_due, key_due, field_due, name_due, row_due}
use Rattle.bser_format.specs.Named.{Reader, reads, and_then, ◌>>=◌, next}
use Rattle.bser_format.specs.DueReaders.{Seen, tag, name, row, value_tag, key_tag, asked}
use Rattle.bser_format.specs.TypeLaws.{Passes}

-- what R reads is passed over by k and f, whatever of five things stands there: a value, a skip, a key, a row's key or a row
pub record Handles {X : Type 0} (k : ℕ → Seen → Reader X) (f : ℕ → ℕ → X → Reader Unit) (R : Meaning) : Type 0 where
  pub node : (o n : ℕ) (skips : Bool) (t : Tree) (b x : List ℕ) (c : Content) → Spells n t b → R (expand t) ≡ Some c → and_then (f o n) (and_then (k n) (and_then (value_tag skips) (next (b ++ x)))) ≡ reads tt x
  pub skipped : (o n : ℕ) (x : List ℕ) (c : Content) → R null ≡ Some c → and_then (f o n) (k n (tag 0x0c) x) ≡ reads tt x
  pub key : (o n : ℕ) (s b x : List ℕ) (c : Content) → SpellsString s b → R (key_tree s) ≡ Some c → and_then (f o n) (and_then (k n) (and_then key_tag (next (b ++ x)))) ≡ reads tt x
  pub named : (o n : ℕ) (s x : List ℕ) (c : Content) → R (key_tree s) ≡ Some c → and_then (f o n) (k n (name s) x) ≡ reads tt x
  pub of_row : (o n : ℕ) (ks : List (List ℕ)) (fs : Fields) (b x : List ℕ) (c : Content) → length (fields fs) ≡ length ks → Each (SpellsField (Spells n)) (fields fs) b
      → R (object (expand_fields ks fs)) ≡ Some c → and_then (f o n) (k n (row ks) (b ++ x)) ≡ reads tt x

pub passes_by : {X : Type 0} {k : ℕ → Seen → Reader X} {f : ℕ → ℕ → X → Reader Unit} {R : Meaning} → Handles k f R → Passes (λ o n d. asked (k n) o d >>= f o n) R
passes_by h o n nothing_due u c b x e r = absurd e
passes_by {R = R} h o n node_due u c b x e r = h.node o n false e.tree b x c e.spelled (ap R (sym e.stands) ∙ r)
passes_by {R = R} h o n key_due u c b x e r = h.key o n e.key b x c e.spelled (ap R (sym e.stands) ∙ r)
passes_by {k = k} {f = f} {R = R} h o n field_due u c b x (inl e) r = ap (λ l. (asked (k n) o field_due >>= f o n) (l ++ x)) e.1 ∙ h.skipped o n x c (ap R (sym e.0) ∙ r)
passes_by {R = R} h o n field_due u c b x (inr e) r = h.node o n true e.tree b x c e.spelled (ap R (sym e.stands) ∙ r)
passes_by {k = k} {f = f} {R = R} h o n (name_due s) u c b x e r = ap (λ l. (asked (k n) o (name_due s) >>= f o n) (l ++ x)) e.1 ∙ h.named o n s x c (ap R (sym e.0) ∙ r)
passes_by {R = R} h o n (row_due ks) u c b x e r = h.of_row o n ks e.row b x c e.even e.spelled (ap R (sym e.stands) ∙ r)

-- a key is text or bytes
pub no_key : {A : Type 0} (R : Meaning) (s : List ℕ) (c : Content) → R (text s) ≡ None → R (bytes s) ≡ None → R (key_tree s) ≡ Some c → A
no_key {A = A} R s c no_text no_bytes = go (is_utf8 s)
  where
    go : (b : Bool) → R (cond b (text s) (bytes s)) ≡ Some c → A
    go true e = absurd cc
    go false e = absurd cc

-- a type that reads no null, no strings and no objects
pub leaf_handles : {X : Type 0} (k : ℕ → Seen → Reader X) (f : ℕ → ℕ → X → Reader Unit) (R : Meaning)
    → ((o n : ℕ) (skips : Bool) (t : Tree) (b x : List ℕ) (c : Content) → Spells n t b → R (expand t) ≡ Some c → and_then (f o n) (and_then (k n) (and_then (value_tag skips) (next (b ++ x)))) ≡ reads tt x)
    → R null ≡ None → ((s : List ℕ) → R (text s) ≡ None) → ((s : List ℕ) → R (bytes s) ≡ None) → ((es : Entries) → R (object es) ≡ None) → Handles k f R
leaf_handles k f R at no_null no_text no_bytes no_object = record {
  node = at;
  skipped = λ o n x c r. absurd (let e = no_null in cc);
  key = λ o n s b x c h r. no_key R s c (no_text s) (no_bytes s) r;
  named = λ o n s x c r. no_key R s c (no_text s) (no_bytes s) r;
  of_row = λ o n ks fs b x c even h r. absurd (let e = no_object (expand_fields ks fs) in cc);
}
