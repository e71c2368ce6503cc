-- What is read back from the message of a tree.
use Rattle.std.proofs.Common.{◌≡◌, ℕ, suc, ◌<◌, ◌≤◌, ◌^◌, ℤ, List, [], ◌∷◌, ◌++◌, length, Some, Result, Ok, Err, map, refl, sym, ap, subst, ◌∙◌, append-nil, true, arith}
use Rattle.std.specs.Prelude.{pos, negsuc, FitsSigned, IfOk}
use Rattle.std.specs.Int.{w64}
use Rattle.std.proofs.lemmas.Bool.{lt-ltb}
use Rattle.std.proofs.lemmas.Int.{ints}
use Rattle.std.proofs.lemmas.Option.{same_Some}
use Rattle.bser_format.specs.Tree.{Tree, integer, text, array, Items, no_items, item, items}
use Rattle.bser_format.specs.Content.{Content, Contents, number, byte_list, list, content, no_contents, Meaning, contents_of, each_some}
use Rattle.bser_format.specs.ReadsHolders.{list_of, reads_vec}
use Rattle.bser_format.specs.ReadsScalars.{reads_signed, reads_string, is_signed}
use Rattle.bser_format.specs.Expand.{ItemsAreTemplateFree}
use Rattle.bser_format.specs.Canonical.{canonical_message, IsWritable, ItemsAreWritable}
use Rattle.bser_format.specs.Measures.{items_depth}
use Rattle.bser_format.specs.Written.{written_items}
use Rattle.bser_format.specs.declared.errors.Error.{Error}
use Rattle.bser_format.proofs.RoundTrip.{meaning_stays}
use Rattle.serde_bser.specs.Holds.{HoldsNumber}
use Rattle.serde_bser.specs.HoldsTexts.{HoldsBytes}
use Rattle.serde_bser.specs.HoldsLists.{HoldsAll, HoldsList}
use Rattle.serde_bser.specs.Laws.{IsReturned}
use Rattle.serde_bser.specs.Messages.{BeginsWith}

signed_64 : (v : ℤ) → FitsSigned w64 v → is_signed 64 v ≡ true
signed_64 (pos n) h = lt-ltb n (2 ^ 63) (omega (arith, ints, h))
signed_64 (negsuc n) h = lt-ltb n (2 ^ 63) (omega (arith, ints, h))

-- what is read from the message of a tree holds what the tree reads as
pub returned : {A : Type 0} (reads : Meaning) (holds : A → Content → Type 0) (t : Tree) (c : Content) (bytes : List ℕ) (back : A) → IsReturned 128 t → reads t ≡ Some c → bytes ≡ canonical_message t → BeginsWith 128 reads holds bytes back → holds back c
returned reads holds t c bytes back h is written found =
    let m = found.message in
    let whole : canonical_message t ++ [] ≡ found.text ++ found.rest = append-nil (canonical_message t) ∙ sym written ∙ found.front in
    let same = meaning_stays reads 128 m.capabilities t m.tree found.text [] found.rest c h.0 h.1 h.2 h.3 m.message whole is in
    subst (holds back) (same_Some found.content c (sym m.read ∙ same)) found.held

-- ---- numbers

-- the trees of the numbers
abbrev pub numbers_of : List ℤ → Items
numbers_of [] = no_items
numbers_of (v ∷ vs) = item (integer v) (numbers_of vs)

pub written_numbers : (vs : List ℤ) → written_items (λ v. Ok (integer v)) vs ≡ Ok (numbers_of vs)
written_numbers [] = refl
written_numbers (v ∷ vs) = rw (written_numbers vs) refl

pub numbers_free : (vs : List ℤ) → ItemsAreTemplateFree (numbers_of vs)
numbers_free [] = tt
numbers_free (v ∷ vs) = (tt, numbers_free vs)

pub numbers_flat : (vs : List ℤ) → items_depth (numbers_of vs) ≡ 0
numbers_flat [] = refl
numbers_flat (v ∷ vs) = rw (numbers_flat vs) refl

pub read_numbers : (vs : List ℤ) → ItemsAreWritable (numbers_of vs) → each_some (reads_signed 64) (items (numbers_of vs)) ≡ Some (map number vs)
read_numbers [] h = refl
read_numbers (v ∷ vs) h = rw (signed_64 v h.0, read_numbers vs h.1) refl

-- the numbers that a list of contents says
same_number : (v w : ℤ) → number v ≡ number w → v ≡ w
same_number v w e = ap (λ c. said c) e
  where
    said : Content → ℤ
    said (number x) = x
    said _ = v

pub same_numbers : (vs ws : List ℤ) → HoldsAll HoldsNumber ws (map number vs) → ws ≡ vs
same_numbers [] [] h = refl
same_numbers (v ∷ vs) (w ∷ ws) h = rw (sym (same_number v w h.0), same_numbers vs ws h.1) refl
same_numbers [] (w ∷ ws) h = absurd h
same_numbers (v ∷ vs) [] h = absurd h

same_item : (c d : Content) (cs ds : Contents) → content c cs ≡ content d ds → (c ≡ d) × (cs ≡ ds)
same_item c d cs ds e = (ap (λ x. first x) e, ap (λ x. others x) e)
  where
    first : Contents → Content
    first (content x xs) = x
    first no_contents = c

    others : Contents → Contents
    others (content x xs) = xs
    others no_contents = no_contents

same_contents_of : (cs ds : List Content) → contents_of cs ≡ contents_of ds → cs ≡ ds
same_contents_of [] [] e = refl
same_contents_of [] (d ∷ ds) e = absurd cc
same_contents_of (c ∷ cs) [] e = absurd cc
same_contents_of (c ∷ cs) (d ∷ ds) e = let both = same_item c d (contents_of cs) (contents_of ds) e in rw (both.0, same_contents_of cs ds both.1) refl

-- lists of the same contents
same_contents : (cs ds : List Content) → list_of ds ≡ list_of cs → cs ≡ ds
same_contents cs ds e = same_contents_of cs ds (sym (ap (λ c. said c) e))
  where
    said : Content → Contents
    said (list xs) = xs
    said _ = no_contents

same_bytes : (s t : List ℕ) → byte_list t ≡ byte_list s → s ≡ t
same_bytes s t e = sym (ap (λ c. said c) e)
  where
    said : Content → List ℕ
    said (byte_list x) = x
    said _ = []

-- the numbers whose message was read back
pub numbers_back : {A : Type 0} (items_of : A → List ℤ) (vs : List ℤ) (bytes : List ℕ) (r : Result A Error) → IsWritable (array (numbers_of vs)) → length bytes < 2 ^ 63 → bytes ≡ canonical_message (array (numbers_of vs))
    → IfOk r (BeginsWith 128 (reads_vec (reads_signed 64)) (λ v c. HoldsList HoldsNumber (items_of v) c) bytes) → IfOk r (λ back. items_of back ≡ vs)
numbers_back f vs bytes (Err e) writable short is found = tt
numbers_back f vs bytes (Ok back) writable short is found =
    let whole : IsReturned 128 (array (numbers_of vs)) = (numbers_free vs, writable, subst (λ n. suc n ≤ 128) (sym (numbers_flat vs)) (omega arith), subst (λ b. length b < 2 ^ 63) is short) in
    let read : reads_vec (reads_signed 64) (array (numbers_of vs)) ≡ Some (list_of (map number vs)) = rw (read_numbers vs writable.1) refl in
    let held = returned (reads_vec (reads_signed 64)) (λ v c. HoldsList HoldsNumber (f v) c) (array (numbers_of vs)) (list_of (map number vs)) bytes back whole read is found in
    same_numbers vs (f back) (subst (HoldsAll HoldsNumber (f back)) (same_contents held.contents (map number vs) held.list) held.items)

-- the text whose message was read back
pub text_back : {A : Type 0} (bytes_of : A → List ℕ) (s bytes : List ℕ) (r : Result A Error) → IsWritable (text s) → length bytes < 2 ^ 63 → bytes ≡ canonical_message (text s)
    → IfOk r (BeginsWith 128 reads_string (λ v. HoldsBytes (bytes_of v)) bytes) → IfOk r (λ back. bytes_of back ≡ s)
text_back f s bytes (Err e) writable short is found = tt
text_back f s bytes (Ok back) writable short is found =
    let whole : IsReturned 128 (text s) = (tt, writable, omega arith, subst (λ b. length b < 2 ^ 63) is short) in
    let held = returned reads_string (λ v. HoldsBytes (f v)) (text s) (byte_list s) bytes back whole refl is found in
    same_bytes (f back) s held
