-- What is put behind what was put.
use Rattle.std.proofs.Common.{◌≡◌, ◌≤◌, ◌<◌, ◌+◌, ℕ, List, [], ◌++◌, length, drop, get_or, Option, Some, None, append-nil, append_assoc, refl, sym, ap, subst, ◌∙◌, arith}
use Rattle.std.proofs.lemmas.List.{length-append}
use Rattle.std.proofs.lemmas.Option.{same_Some}
use Rattle.bser_c.specs.Fronts.{Put, Puts, bytes_in}
use Rattle.bser_c.specs.Parts.{joined, part, parts}
use Rattle.bser_c.specs.Puts.{PutsPart}
use Rattle.bser_c.specs.declared.front.Front.{Front}
use Rattle.bser_c.proofs.Steps.{Begins, begins_empty, begins_more, begins_nothing, begins_all}

pub put_both : (a b c : Front) (xs ys : List ℕ) → Put a b xs → Put b c ys → Put a c (xs ++ ys)
put_both a b c xs ys p q = record {
  through = q.through ∙ p.through;
  room = q.room ∙ p.room;
  longer = omega (arith, p.longer, q.longer, length-append xs ys);
  fits = q.fits;
  put = q.put ∙ ap (λ z. z ++ ys) p.put ∙ append_assoc (bytes_in a) xs ys;
}

-- what is put second, or has no room
pub puts_both : {A : Type 0} (a b c : Front) (xs ys zs : List ℕ) (answer : Option A) → zs ≡ xs ++ ys → Put a b xs → Puts b c ys answer → Puts a c zs answer
puts_both a b c xs ys zs (Some done) whole p q = subst (λ z. Put a c z) (sym whole) (put_both a b c xs ys p q)
puts_both a b c xs ys zs None whole p q = omega (arith, p.longer, p.room, q, ap length whole, length-append xs ys)

-- what has no room already has none with more behind it
pub full_first : (a : Front) (xs ys zs : List ℕ) → zs ≡ xs ++ ys → length a.out.now < a.len + length xs → length a.out.now < a.len + length zs
full_first a xs ys zs whole full = omega (arith, full, ap length whole, length-append xs ys)

-- ---- the parts of words, one after the other

-- a header was put, and what the first so many words tell
abbrev pub BeginsPut : List ℕ → List ℕ → ℕ → List ℕ → Front → Front → Type 0
BeginsPut strings words at header a b = (bytes : List ℕ) × Begins strings words at bytes × Put a b (header ++ bytes)

pub put_begins : {A : Type 0} (strings words header : List ℕ) (a b : Front) (answer : Option A) (done : A) → answer ≡ Some done → Puts a b header answer → BeginsPut strings words 0 header a b
put_begins {A} strings words header a b answer done is put = ([], begins_empty strings words, subst (λ h. Put a b h) (sym (append-nil header)) (subst (λ (r : Option A). Puts a b header r) is put))

pub put_more : {A : Type 0} (strings words header : List ℕ) (at : ℕ) (a b c : Front) (answer : Option A) (done : A) → BeginsPut strings words at header a b → at + 1 < length words → answer ≡ Some done
    → PutsPart (part strings (get_or words at 0) (get_or words (at + 1) 0)) b c answer → BeginsPut strings words (at + 2) header a c
put_more {A} strings words header at a b c answer done (bytes, begins, put) h is puts =
    go (part strings (get_or words at 0) (get_or words (at + 1) 0)) refl (subst (λ (r : Option A). PutsPart (part strings (get_or words at 0) (get_or words (at + 1) 0)) b c r) is puts)
  where
    go : (o : Option (List ℕ)) → part strings (get_or words at 0) (get_or words (at + 1) 0) ≡ o → PutsPart o b c (Some done) → BeginsPut strings words (at + 2) header a c
    go None e p = absurd p
    go (Some more) e p = (bytes ++ more, begins_more strings words at bytes more begins h e, subst (λ z. Put a c z) (append_assoc header bytes more) (put_both a b c (header ++ bytes) more put p))

longer : (x : List ℕ) (o : Option (List ℕ)) (whole : List ℕ) → joined (Some x) o ≡ Some whole → length x ≤ length whole
longer x None whole h = absurd cc
longer x (Some y) whole h = omega (arith, ap length (same_Some (x ++ y) whole h), length-append x y)

pub put_full : {A : Type 0} (strings words header whole : List ℕ) (at : ℕ) (a b c : Front) (answer : Option A) → BeginsPut strings words at header a b → at + 1 < length words → answer ≡ None
    → PutsPart (part strings (get_or words at 0) (get_or words (at + 1) 0)) b c answer → parts strings words ≡ Some whole → length a.out.now < a.len + length (header ++ whole)
put_full {A} strings words header whole at a b c answer (bytes, begins, put) h is puts told =
    go (part strings (get_or words at 0) (get_or words (at + 1) 0)) refl (subst (λ (r : Option A). PutsPart (part strings (get_or words at 0) (get_or words (at + 1) 0)) b c r) is puts)
  where
    go : (o : Option (List ℕ)) → part strings (get_or words at 0) (get_or words (at + 1) 0) ≡ o → PutsPart {A = A} o b c None → length a.out.now < a.len + length (header ++ whole)
    go None e p = let none = begins_nothing strings words at bytes begins h e in absurd cc
    go (Some more) e p =
        let next = begins_more strings words at bytes more begins h e in
        let long = longer (bytes ++ more) (parts strings (drop (at + 2) words)) whole (sym next.told ∙ told) in
        omega (arith, long, p, put.longer, put.room, length-append bytes more, length-append header bytes, length-append header whole)

pub put_all_told : (strings words header : List ℕ) (at : ℕ) (a b : Front) → BeginsPut strings words at header a b → length words < at + 2 → (bytes : List ℕ) × (parts strings words ≡ Some bytes) × Put a b (header ++ bytes)
put_all_told strings words header at a b (bytes, begins, put) h = (bytes, begins_all strings words at bytes begins h, put)

-- a header that has no room has none with what follows
pub header_full : {A : Type 0} (header whole : List ℕ) (a b : Front) (answer : Option A) → answer ≡ None → Puts a b header answer → length a.out.now < a.len + length (header ++ whole)
header_full {A} header whole a b answer is puts =
    let full : length a.out.now < a.len + length header = subst (λ (r : Option A). Puts a b header r) is puts in
    omega (arith, full, length-append header whole)
