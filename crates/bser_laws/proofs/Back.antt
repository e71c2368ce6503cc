-- What is read back from the message of a tree that reads as a value.
use Rattle.std.proofs.Common.{◌≡◌, inl, inr, ℕ, ◌<◌, ◌≤◌, ◌^◌, Bool, true, false, List, ◌++◌, length, Option, Some, Result, Ok, Err, refl, sym, ap, subst, ◌∙◌, max, arith}
use Rattle.std.specs.Prelude.{IfOk, IfErr, IsTrue, option_map, ◌↔◌}
use Rattle.std.proofs.Math.Dec.{leb}
use Rattle.std.proofs.lemmas.Bool.{leb-true, leb-false}
use Rattle.std.proofs.lemmas.List.{append_cancel_left}
use Rattle.std.proofs.lemmas.Option.{same_Some}
use Rattle.bser_format.specs.Tree.{Tree}
use Rattle.bser_format.specs.Expand.{expand}
use Rattle.bser_format.specs.Content.{Content, value}
use Rattle.bser_format.specs.ReadsAny.{reads_value}
use Rattle.bser_format.specs.Measures.{depth}
use Rattle.bser_format.specs.Message.{IsMessage}
use Rattle.bser_format.specs.Canonical.{canonical_message, IsWritable}
use Rattle.bser_format.specs.declared.errors.Error.{Error}
use Rattle.bser_format.specs.Compact.{compact_message, fold_templates}
use Rattle.bser_format.specs.ValueTree.{IsValueTree}
use Rattle.bser_format.proofs.Back.{canon_message}
use Rattle.bser_format.proofs.CompactMessages.{equal_compact}
use Rattle.bser_format.proofs.Fits.{body_fits, equal_values, value_reads_as_itself}
use Rattle.bser_format.proofs.Folded.{folded_reads}
use Rattle.bser_format.proofs.FoldedFits.{short_writable}
use Rattle.bser_format.proofs.GrammarLaws.{one_message, more_levels}
use Rattle.bser_ser.proofs.Messages.{same_message}
use Rattle.bser_ser.specs.Message.{message_of}
use Rattle.bser_value.specs.declared.value.Value.{Value}
use Rattle.serde_bser.specs.ValueView.{tree_of}
use Rattle.serde_bser.specs.Messages.{ReadsMessageAs, BeginsWith, RefusesSlice}
use Rattle.serde_bser.specs.Reading.{Asking, Needs}
use Rattle.bser_laws.specs.Returned.{IsNotReturned, IsNotReturnedByReader, IsNotRead, IsWrittenFor, TookOne}

-- the value that a `Value` holds
same_value : (t u : Tree) → value t ≡ value u → t ≡ u
same_value t u e = ap (λ c. said c) e
  where
    said : Content → Tree
    said (value x) = x
    said _ = t

message_read : (n : ℕ) (w v : Tree) → IsWrittenFor w v → depth w ≤ n → ReadsMessageAs n reads_value (canonical_message w) (value v)
message_read n w v h levels = record {
  capabilities = 0;
  tree = w;
  message = canon_message n w h.writable levels h.short;
  read = ap (option_map value) h.read;
}

-- a message is one with more levels
more : (n m c : ℕ) (t : Tree) (b : List ℕ) → n ≤ m → IsMessage n c t b → IsMessage m c t b
more n m c t b l h = record { body = h.body; capabilities = h.capabilities; whole = h.whole; value = more_levels n m h.body t l h.value; short = h.short }

-- a message in front of the written one is that one, however many levels are read
pub front_is : (n : ℕ) (w v : Tree) (a x y : List ℕ) (c : Content) → IsWrittenFor w v → ReadsMessageAs n reads_value a c → canonical_message w ++ x ≡ a ++ y → (canonical_message w ≡ a) × (value v ≡ c)
front_is n w v a x y c h m e =
    let levels = max n (depth w) in
    let text : IsMessage levels m.capabilities m.tree a = more n levels m.capabilities m.tree a (omega arith) m.message in
    let same = one_message levels 0 m.capabilities (canonical_message w) a x y w m.tree (canon_message levels w h.writable (omega arith) h.short) text e in
    (same.0, same_Some (value v) c (sym (ap (option_map value) h.read) ∙ ap (λ t. reads_value (expand t)) same.2 ∙ m.read))

-- ---- from a slice

pub slice_back : {A : Type 0} (tree : A → Tree) (holds : A → Content → Type 0) (n : ℕ) (w v : Tree) (bytes x : List ℕ) (r : Result A Error) → ((a : A) (c : Content) → holds a c → c ≡ value (tree a)) → IsWrittenFor w v → bytes ≡ canonical_message w ++ x
    → IfOk r (BeginsWith n reads_value holds bytes) → IfOk r (λ back. tree back ≡ v)
slice_back tree holds n w v bytes x (Err e) told h is found = tt
slice_back tree holds n w v bytes x (Ok back) told h is found =
    let same = front_is n w v found.text x found.rest found.content h found.message (sym is ∙ found.front) in
    sym (same_value v (tree back) (same.1 ∙ told back found.content found.held))

pub slice_refused : {A : Type 0} (n : ℕ) (asks : Option (Asking reads_value)) (needs : Needs) (w v : Tree) (bytes x : List ℕ) (r : Result A Error) → IsWrittenFor w v → bytes ≡ canonical_message w ++ x
    → IfErr r (λ e. RefusesSlice n reads_value asks needs e bytes) → IfErr r (IsNotReturned n w)
slice_refused n asks needs w v bytes x (Ok back) h is refused = tt
slice_refused n asks needs w v bytes x (Err e) h is refused = go (leb (depth w) n) refl
  where
    go : (b : Bool) → leb (depth w) n ≡ b → IsNotReturned n w e
    go false deep = inr (leb-false (depth w) n deep)
    go true shallow = inl (inl ((refused.excuse (canonical_message w) x (value v) (message_read n w v h (leb-true (depth w) n shallow)) is).memory))

-- ---- from a reader

both_back : (n : ℕ) (w v : Tree) (bytes x rest : List ℕ) (a : Value) → IsWrittenFor w v → bytes ≡ canonical_message w ++ x → TookOne n bytes rest a → (tree_of a ≡ v) × (rest ≡ x)
both_back n w v bytes x rest a h is took =
    let whole : canonical_message w ++ x ≡ took.text ++ rest = sym is ∙ took.bytes in
    let same = front_is n w v took.text x rest took.content h took.message whole in
    let rests : canonical_message w ++ x ≡ canonical_message w ++ rest = whole ∙ ap (λ l. l ++ rest) (sym same.0) in
    (sym (same_value v (tree_of a) (same.1 ∙ took.held.same)), sym (append_cancel_left (canonical_message w) x rest rests))

module _ {A : Type 0} (value_of : A → Value) (left_of : A → List ℕ) (n : ℕ) (w v : Tree) (bytes x : List ℕ) where
  pub reader_back : (r : Result A Error) → IsWrittenFor w v → bytes ≡ canonical_message w ++ x → IfOk r (λ a. TookOne n bytes (left_of a) (value_of a)) → IfOk r (λ a. tree_of (value_of a) ≡ v)
  reader_back (Err e) h is found = tt
  reader_back (Ok a) h is found = (both_back n w v bytes x (left_of a) (value_of a) h is found).0

  pub left_back : (r : Result A Error) → IsWrittenFor w v → bytes ≡ canonical_message w ++ x → IfOk r (λ a. TookOne n bytes (left_of a) (value_of a)) → IfOk r (λ a. left_of a ≡ x)
  left_back (Err e) h is found = tt
  left_back (Ok a) h is found = (both_back n w v bytes x (left_of a) (value_of a) h is found).1

pub reader_refused : {A : Type 0} (n : ℕ) (asks : Option (Asking reads_value)) (w v : Tree) (bytes x : List ℕ) (r : Result A Error) → IsWrittenFor w v → bytes ≡ canonical_message w ++ x → IfErr r (IsNotRead n asks bytes) → IfErr r (IsNotReturnedByReader n w)
reader_refused n asks w v bytes x (Ok a) h is refused = tt
reader_refused n asks w v bytes x (Err e) h is (inl memory) = inl (inl (inl memory))
reader_refused n asks w v bytes x (Err e) h is (inr (after, refused)) = go (leb (depth w) n) refl
  where
    go : (b : Bool) → leb (depth w) n ≡ b → IsNotReturnedByReader n w e
    go false deep = inl (inr (leb-false (depth w) n deep))
    go true shallow = inr (after, refused.excuse (canonical_message w) x (value v) (message_read n w v h (leb-true (depth w) n shallow)) (ap Some is))

-- ---- what is written

pub written_canonical : (t : Tree) (m : List ℕ) → IsWritable t → IsValueTree t → message_of (Ok t) ≡ Ok m → length m < 2 ^ 63 → IsWrittenFor t t
written_canonical t m writable_tree h is short =
    record {
      writable = writable_tree;
      short = subst (λ l. length l < 2 ^ 63) (sym (same_message t m is)) short;
      read = value_reads_as_itself t h;
    }

pub written_compact : (t : Tree) (m : List ℕ) → IsValueTree t → m ≡ compact_message t → length m < 2 ^ 63 → IsWrittenFor (fold_templates t) t
written_compact t m h is short =
    let fits : length (compact_message t) < 2 ^ 63 = subst (λ l. length l < 2 ^ 63) is short in
    record { writable = short_writable t h (body_fits (fold_templates t) fits); short = fits; read = folded_reads t h }

-- ---- messages of two values

-- a test that tells whether two lists are equal tells whether two others are, where both pairs are equal together
same_test : {A B : Type 0} (same : Bool) (a b : A) (t u : B) → (IsTrue same ↔ (a ≡ b)) → ((a ≡ b) ↔ (t ≡ u)) → IsTrue same ↔ (t ≡ u)
same_test same a b t u tells together = (λ yes. together.0 (tells.0 yes), λ e. tells.1 (together.1 e))

pub one_canonical : (t u : Tree) (a b : List ℕ) (same : Bool) → IsValueTree t → IsValueTree u → message_of (Ok t) ≡ Ok a → message_of (Ok u) ≡ Ok b → length a < 2 ^ 63 → length b < 2 ^ 63 → (IsTrue same ↔ (a ≡ b))
    → (IsTrue same ↔ (canonical_message t ≡ canonical_message u)) × (IsTrue same ↔ (t ≡ u))
one_canonical t u a b same h k is other short low tells =
    let p = same_message t a is in
    let q = same_message u b other in
    let fits : length (canonical_message t) < 2 ^ 63 = subst (λ l. length l < 2 ^ 63) (sym p) short in
    let low_fits : length (canonical_message u) < 2 ^ 63 = subst (λ l. length l < 2 ^ 63) (sym q) low in (
      same_test same a b _ _ tells (λ e. p ∙ e ∙ sym q, λ e. sym p ∙ e ∙ q),
      same_test same a b t u tells (λ e. equal_values t u h k (body_fits t fits) (body_fits u low_fits) (p ∙ e ∙ sym q), λ e. sym p ∙ ap canonical_message e ∙ q),
    )

pub one_compact : (t u : Tree) (a b : List ℕ) (same : Bool) → IsValueTree t → IsValueTree u → a ≡ compact_message t → b ≡ compact_message u → length a < 2 ^ 63 → length b < 2 ^ 63 → (IsTrue same ↔ (a ≡ b))
    → (IsTrue same ↔ (compact_message t ≡ compact_message u)) × (IsTrue same ↔ (t ≡ u))
one_compact t u a b same h k is other short low tells =
    let fits : length (compact_message t) < 2 ^ 63 = subst (λ l. length l < 2 ^ 63) is short in
    let low_fits : length (compact_message u) < 2 ^ 63 = subst (λ l. length l < 2 ^ 63) other low in (
      same_test same a b _ _ tells (λ e. sym is ∙ e ∙ other, λ e. is ∙ e ∙ sym other),
      same_test same a b t u tells (λ e. equal_compact t u h k (body_fits (fold_templates t) fits) (body_fits (fold_templates u) low_fits) (sym is ∙ e ∙ other), λ e. is ∙ ap compact_message e ∙ sym other),
    )
