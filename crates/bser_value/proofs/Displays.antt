-- Lemmas on what is written of a value's parts, one after another.
use Rattle.std.proofs.Common.{◌≡◌, ℕ, List, [], ◌++◌, Option, Some, None, Float, Result, Err, IsOk, IfSome, codes, refl, sym, ap, ap₂, subst, ◌∙◌, append_assoc}
use Rattle.std.proofs.Output.{has_written_append}
use Rattle.std.specs.Fmt.{IsPlainFormatter, HasWritten, DisplaysOnOk, ◌++?◌, comma_space}
use Rattle.std.specs.declared.fmt.Error.{Error}
use Rattle.std.specs.declared.fmt.Formatter.{Formatter}
use Rattle.bser_format.specs.QuotedText.{quoted_key}
use Rattle.bser_format.specs.RealText.{bits_text, finite, IsNumberTextOr, unless_number}
use Rattle.bser_format.specs.SomeText.{Exactly, ◌followed_by◌, HasWrittenSome, WritesSomeOnOk}
use Rattle.bser_format.specs.Tree.{Tree, null, boolean, integer, real, bytes, text, array, object, template, Items, no_items, item, Entries, no_entries, entry}
use Rattle.bser_value.specs.TreeText.{IsTextOf, AreItems, AreEntries, tree_text, item_texts, entry_texts}

-- with a text of what is left, this is a text of the whole
abbrev pub Begins : (List ℕ → Type 0) → (List ℕ → Type 0) → List ℕ → Type 0
Begins rest whole done = (s : List ℕ) → rest s → whole (done ++ s)

begun : (first : List ℕ) (rest : List ℕ → Type 0) → Begins rest (Exactly first followed_by rest) first
begun first rest s h = (first, s, refl, h, refl)

begun_more : (done before x : List ℕ) (part rest whole : List ℕ → Type 0) → Begins (Exactly before followed_by part followed_by rest) whole done → part x → Begins rest whole (done ++ (before ++ x))
begun_more done before x part rest whole h hx s hs =
    subst whole (ap (λ l. done ++ l) (sym (append_assoc before x s)) ∙ sym (append_assoc done (before ++ x) s)) (h (before ++ (x ++ s)) (before, x ++ s, refl, (x, s, hx, hs, refl), refl))

module _ {W : Type 0} (took : W → List ℕ → W → Type 0) where
  -- g is f after writing the beginning of a text of the whole, where this is left
  abbrev pub Showing : Formatter W → (rest whole : List ℕ → Type 0) → Formatter W → Type 0
  Showing f rest whole g = IsPlainFormatter f → HasWrittenSome took f (Begins rest whole) g

  -- the one text, and two texts in a row
  pub shows_exactly : (f g : Formatter W) (s : List ℕ) → HasWritten took f s g → HasWrittenSome took f (Exactly s) g
  shows_exactly f g s x = (s, refl, x)

  pub shows_then : (f g h : Formatter W) (P Q : List ℕ → Type 0) → HasWrittenSome took f P g → (IsPlainFormatter g → HasWrittenSome took g Q h) → HasWrittenSome took f (P followed_by Q) h
  shows_then f g h P Q x y = let z = y x.2.plain in (x.0 ++ z.0, (x.0, z.0, x.1, z.1, refl), has_written_append took f x.0 g z.0 h x.2 z.2)

  -- the first text is written, one more part behind what stands before it, and the last text
  pub showing_begun : (f g : Formatter W) (first : List ℕ) (rest : List ℕ → Type 0) → (IsPlainFormatter f → HasWritten took f first g) → Showing f rest (Exactly first followed_by rest) g
  showing_begun f g first rest wrote plain = (first, begun first rest, wrote plain)

  pub showing_more : (f g h k : Formatter W) (before : List ℕ) (part rest whole : List ℕ → Type 0) → (IsPlainFormatter g → HasWritten took g before h) → (IsPlainFormatter h → HasWrittenSome took h part k)
      → Showing f (Exactly before followed_by part followed_by rest) whole g → Showing f rest whole k
  showing_more f g h k before part rest whole lead shown x plain =
      let p = x plain in
      let q = lead p.2.plain in
      let r = shown q.plain in (
        p.0 ++ (before ++ r.0),
        begun_more p.0 before r.0 part rest whole p.1 r.1,
        has_written_append took f p.0 g (before ++ r.0) k p.2 (has_written_append took g before h r.0 k q r.2),
      )

  pub showing_done : (f g h : Formatter W) (r : Result (Unit {0}) Error) (last : List ℕ) (whole : List ℕ → Type 0) → (IsPlainFormatter g → IsOk r → HasWritten took g last h) → Showing f (Exactly last) whole g → WritesSomeOnOk took f r whole h
  showing_done f g h r last whole wrote x plain ok = let p = x plain in (p.0 ++ last, p.1 last refl, has_written_append took f p.0 g last h p.2 (wrote p.2.plain ok))

  -- an error is no text
  pub failed : (f g : Formatter W) (e : Error) (P : List ℕ → Type 0) → WritesSomeOnOk took f (Err e) P g
  failed f g e P = λ plain ok. absurd cc

  -- the one text, where there is one
  pub shows_one : (f g : Formatter W) (r : Result (Unit {0}) Error) (o : Option (List ℕ)) (P : List ℕ → Type 0) → ((s : List ℕ) → P s → IfSome o (λ a. s ≡ a)) → WritesSomeOnOk took f r P g → DisplaysOnOk took f r o g
  shows_one f g r None P same x = tt
  shows_one f g r (Some a) P same x = λ plain ok. let p = x plain ok in subst (λ s. HasWritten took f s g) (same p.0 p.1) p.2

-- each such text is the one in o
abbrev Agrees : Option (List ℕ) → (List ℕ → Type 0) → Type 0
Agrees o P = (s : List ℕ) → P s → IfSome o (λ a. s ≡ a)

both_agree : (o p : Option (List ℕ)) (P Q : List ℕ → Type 0) → Agrees o P → Agrees p Q → Agrees (o ++? p) (P followed_by Q)
both_agree None p P Q x y s h = tt
both_agree (Some a) None P Q x y s h = tt
both_agree (Some a) (Some b) P Q x y s h = h.4 ∙ ap₂ (λ k l. k ++ l) (x h.0 h.2) (y h.1 h.3)

one_agrees : (a : List ℕ) → Agrees (Some a) (Exactly a)
one_agrees a s h = h

real_agrees : (bits : ℕ) (other : List ℕ) (o : Option Float) → Agrees (unless_number other o) (IsNumberTextOr bits other o)
real_agrees bits other (Some x) s h = tt
real_agrees bits other None s h = h

mutual
  -- a tree has one text where it holds no finite real
  pub texts_agree : (t : Tree) → Agrees (tree_text t) (IsTextOf t)
  texts_agree null s h = h
  texts_agree (boolean b) s h = h
  texts_agree (integer n) s h = h
  texts_agree (real bits) s h = real_agrees bits (bits_text bits) (finite bits) s h
  texts_agree (bytes b) s h = h
  texts_agree (text b) s h = h
  texts_agree (array ts) s h = both_agree (Some (codes "[")) (item_texts [] ts) (Exactly (codes "[")) (AreItems [] ts) (one_agrees (codes "[")) (items_agree [] ts) s h
  texts_agree (object es) s h = both_agree (Some (codes "{")) (entry_texts [] es) (Exactly (codes "{")) (AreEntries [] es) (one_agrees (codes "{")) (entries_agree [] es) s h
  texts_agree (template ks rs) s h = tt

  items_agree : (before : List ℕ) (ts : Items) → Agrees (item_texts before ts) (AreItems before ts)
  items_agree before no_items s h = h
  items_agree before (item t ts) s h =
      both_agree (Some before) (tree_text t ++? item_texts comma_space ts) (Exactly before) (IsTextOf t followed_by AreItems comma_space ts) (one_agrees before)
      (both_agree (tree_text t) (item_texts comma_space ts) (IsTextOf t) (AreItems comma_space ts) (texts_agree t) (items_agree comma_space ts)) s h

  entries_agree : (before : List ℕ) (es : Entries) → Agrees (entry_texts before es) (AreEntries before es)
  entries_agree before no_entries s h = h
  entries_agree before (entry k t es) s h =
      let name = Exactly (quoted_key k) in
      let value = Exactly (codes ": ") followed_by IsTextOf t in
      let one : Agrees (Some (codes ": ") ++? tree_text t) value = both_agree (Some (codes ": ")) (tree_text t) (Exactly (codes ": ")) (IsTextOf t) (one_agrees (codes ": ")) (texts_agree t) in
      both_agree (Some before) ((Some (quoted_key k) ++? Some (codes ": ") ++? tree_text t) ++? entry_texts comma_space es) (Exactly before) ((name followed_by value) followed_by AreEntries comma_space es) (one_agrees before)
      (both_agree (Some (quoted_key k) ++? Some (codes ": ") ++? tree_text t) (entry_texts comma_space es) (name followed_by value) (AreEntries comma_space es)
      (both_agree (Some (quoted_key k)) (Some (codes ": ") ++? tree_text t) name value (one_agrees (quoted_key k)) one) (entries_agree comma_space es)) s h
