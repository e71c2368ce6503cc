-- What the words tell, two words after those before them.
use Rattle.std.proofs.Common.{◌≡◌, ◌<◌, ◌+◌, ◌-◌, ◌^◌, min, ℕ, suc, List, [], ◌∷◌, ◌++◌, length, take, drop, get_or, Option, Some, None, option_map, append-nil, append_assoc, refl, sym, ap, subst, ◌∙◌, arith}
use Rattle.std.proofs.lemmas.List.{length-append, length-drop}
use Rattle.std.proofs.lemmas.Option.{same_Some}
use Rattle.std.proofs.Math.Seq.{drop-cons, take-suc}
use Rattle.bser_c.specs.Parts.{TellSize, joined, part, parts}
use Rattle.bser_c.specs.Untaped.{MeanNothingAt}
use Rattle.bser_c.proofs.Says.{Says, joined_assoc, said, says_all, says_both, says_nothing}

-- the first so many words tell these bytes
pub record Begins (strings words : List ℕ) (at : ℕ) (bytes : List ℕ) : Type 0 where
  pub says : Says strings (take at words) bytes
  pub told : parts strings words ≡ joined (Some bytes) (parts strings (drop at words))

pub begins_empty : (strings words : List ℕ) → Begins strings words 0 []
begins_empty strings words = record { says = says_nothing strings; told = go (parts strings words) }
  where
    go : (o : Option (List ℕ)) → o ≡ joined (Some []) o
    go None = refl
    go (Some x) = refl

two_more : (strings words : List ℕ) (at : ℕ) → at + 1 < length words → parts strings (drop at words) ≡ joined (part strings (get_or words at 0) (get_or words (at + 1) 0)) (parts strings (drop (at + 2) words))
two_more strings words at h =
    let first : drop at words ≡ get_or words at 0 ∷ drop (suc at) words = drop-cons words at 0 (omega arith) in
    let second : drop (suc at) words ≡ get_or words (suc at) 0 ∷ drop (suc (suc at)) words = drop-cons words (suc at) 0 (omega arith) in
    let one : suc at ≡ at + 1 = omega arith in
    let two : suc (suc at) ≡ at + 2 = omega arith in
    ap (λ w. parts strings w) (first ∙ ap (λ w. get_or words at 0 ∷ w) second)
    ∙ ap (λ k. joined (part strings (get_or words at 0) (get_or words k 0)) (parts strings (drop (suc (suc at)) words))) one
    ∙ ap (λ k. joined (part strings (get_or words at 0) (get_or words (at + 1) 0)) (parts strings (drop k words))) two

-- the first so many words, and two more
taken_two : (words : List ℕ) (at : ℕ) → at + 1 < length words → take (at + 2) words ≡ take at words ++ (get_or words at 0 ∷ get_or words (at + 1) 0 ∷ [])
taken_two words at h =
    let one : suc at ≡ at + 1 = omega arith in
    let two : suc (suc at) ≡ at + 2 = omega arith in
    let first = take-suc words at 0 (omega (arith, h)) in
    let second = take-suc words (suc at) 0 (omega (arith, h)) in
    ap (λ k. take k words) (sym two)
    ∙ second
    ∙ ap (λ w. w ++ get_or words (suc at) 0 ∷ []) first
    ∙ append_assoc (take at words) (get_or words at 0 ∷ []) (get_or words (suc at) 0 ∷ [])
    ∙ ap (λ k. take at words ++ (get_or words at 0 ∷ get_or words k 0 ∷ [])) one

-- two more words
pub begins_more : (strings words : List ℕ) (at : ℕ) (bytes more : List ℕ) → Begins strings words at bytes → at + 1 < length words → part strings (get_or words at 0) (get_or words (at + 1) 0) ≡ Some more → Begins strings words (at + 2) (bytes ++ more)
begins_more strings words at bytes more b h is = record {
  says = subst (λ w. Says strings w (bytes ++ more)) (sym (taken_two words at h)) (says_both strings (take at words) (get_or words at 0 ∷ get_or words (at + 1) 0 ∷ []) bytes more b.says (said strings _ (get_or words at 0) (get_or words (at + 1) 0) more refl is));
  told = b.told ∙ ap (λ o. joined (Some bytes) o) (two_more strings words at h ∙ ap (λ o. joined o (parts strings (drop (at + 2) words))) is) ∙ joined_assoc bytes more (parts strings (drop (at + 2) words));
}

-- two words that tell nothing
pub begins_nothing : (strings words : List ℕ) (at : ℕ) (bytes : List ℕ) → Begins strings words at bytes → at + 1 < length words → part strings (get_or words at 0) (get_or words (at + 1) 0) ≡ None → parts strings words ≡ None
begins_nothing strings words at bytes b h is = b.told ∙ ap (λ o. joined (Some bytes) o) (two_more strings words at h ∙ ap (λ o. joined o (parts strings (drop (at + 2) words))) is)

none_left : (strings rest : List ℕ) → length rest < 2 → parts strings rest ≡ Some []
none_left strings [] h = refl
none_left strings (x ∷ []) h = refl
none_left strings (x ∷ y ∷ rest) h = absurd (omega arith)

-- no two words are left
pub begins_all : (strings words : List ℕ) (at : ℕ) (bytes : List ℕ) → Begins strings words at bytes → length words < at + 2 → parts strings words ≡ Some bytes
begins_all strings words at bytes b h =
    b.told ∙ ap (λ o. joined (Some bytes) o) (none_left strings (drop at words) (omega (arith, length-drop at words, h))) ∙ ap (λ w. Some w) (append-nil bytes)

-- ---- a size that is added up

counted_in : (o : Option (List ℕ)) (n : ℕ) → option_map length o ≡ Some n → (x : List ℕ) × (o ≡ Some x) × (length x ≡ n)
counted_in None n h = absurd cc
counted_in (Some x) n h = (x, refl, same_Some (length x) n h)

-- the first so many words tell so many bytes, counted up to the greatest usize
abbrev pub BeginsSize : List ℕ → List ℕ → ℕ → ℕ → Type 0
BeginsSize strings words at size = (bytes : List ℕ) × Begins strings words at bytes × (size ≡ min (length bytes) (2 ^ 64 - 1))

pub size_empty : (strings words : List ℕ) → BeginsSize strings words 0 0
size_empty strings words = ([], begins_empty strings words, refl)

pub size_more : (strings words : List ℕ) (at size part_size sum : ℕ) → BeginsSize strings words at size → at + 1 < length words → option_map length (part strings (get_or words at 0) (get_or words (at + 1) 0)) ≡ Some part_size → sum ≡ min (size + part_size) (2 ^ 64 - 1) → BeginsSize strings words (at + 2) sum
size_more strings words at size part_size sum (bytes, begins, is) h told added =
    let p = counted_in _ part_size told in
    let len = p.2 in
    (bytes ++ p.0, begins_more strings words at bytes p.0 begins h p.1, omega (arith, is, added, len, length-append bytes p.0))

no_part : (o : Option (List ℕ)) → option_map length o ≡ None → o ≡ None
no_part None e = refl
no_part (Some x) e = absurd cc

pub size_nothing : (strings words : List ℕ) (at size : ℕ) → BeginsSize strings words at size → at + 1 < length words → option_map length (part strings (get_or words at 0) (get_or words (at + 1) 0)) ≡ None → parts strings words ≡ None
size_nothing strings words at size (bytes, begins, is) h told = begins_nothing strings words at bytes begins h (no_part (part strings (get_or words at 0) (get_or words (at + 1) 0)) told)

-- so the two that tell nothing stand behind some that tell something
pub size_stops : (strings words : List ℕ) (at size : ℕ) → BeginsSize strings words at size → at + 1 < length words → option_map length (part strings (get_or words at 0) (get_or words (at + 1) 0)) ≡ None → MeanNothingAt strings words at
size_stops strings words at size (bytes, begins, is) h told =
    let one : suc at ≡ at + 1 = omega arith in
    record {
      first = get_or words at 0;
      second = get_or words (at + 1) 0;
      rest = drop (suc (suc at)) words;
      before = bytes;
      means = says_all strings (take at words) bytes begins.says;
      next = drop-cons words at 0 (omega (arith, h))
          ∙ ap (λ w. get_or words at 0 ∷ w) (drop-cons words (suc at) 0 (omega (arith, h)) ∙ ap (λ k. get_or words k 0 ∷ drop (suc (suc at)) words) one);
      nothing = no_part (part strings (get_or words at 0) (get_or words (at + 1) 0)) told;
    }

pub size_all : (strings words : List ℕ) (at size : ℕ) → BeginsSize strings words at size → length words < at + 2 → TellSize strings words size
size_all strings words at size (bytes, begins, is) h = (bytes, begins_all strings words at bytes begins h, is)
