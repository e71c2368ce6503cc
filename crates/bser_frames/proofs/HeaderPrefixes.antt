-- The length of a body at the start of bytes.
use Rattle.std.proofs.Common.{◌≡◌, ◌⊎◌, inl, inr, ℕ, suc, ◌≤◌, List, [], ◌∷◌, ◌++◌, length, take, drop, length-append, append_assoc, refl, sym, ap, ◌∙◌, arith}
use Rattle.std.specs.Prelude.{pos}
use Rattle.std.specs.Int.{byte_len}
use Rattle.std.proofs.lemmas.List.{length-drop, take-append-drop}
use Rattle.bser_format.specs.Grammar.{IntSize, int8, int16, int32, int64, tag_of, width_of, SpellsCount}
use Rattle.bser_format.specs.declared.errors.Complaint.TheVariants.{NegativeLength}
use Rattle.bser_format.specs.Named as named
use Rattle.bser_format.specs.Named.{reads, ◌>>=◌}
use Rattle.bser_format.proofs.Canon.{length-int_bytes}
use Rattle.bser_format.proofs.Sifting.{same_answer}
use Rattle.bser_bunser.proofs.Readers.{counted_there}
use Rattle.bser_bunser.specs.Prefixes.{CutInt, IntTagged}

-- how many bytes a count has
pub count_size : (k : ℕ) (number : List ℕ) (h : SpellsCount k number) → length number ≡ suc (byte_len (width_of h.size))
count_size k number h = ap length h.spelled ∙ length-int_bytes h.size (pos k)

widths : (s : IntSize) → 1 ≤ byte_len (width_of s)
widths int8 = omega arith
widths int16 = omega arith
widths int32 = omega arith
widths int64 = omega arith

most_widths : (s : IntSize) → byte_len (width_of s) ≤ 8
most_widths int8 = omega arith
most_widths int16 = omega arith
most_widths int32 = omega arith
most_widths int64 = omega arith

-- a count has two bytes or more, and nine at most
pub count_least : (k : ℕ) (number : List ℕ) → SpellsCount k number → 2 ≤ length number
count_least k number h = omega (arith, count_size k number h, widths h.size)

pub count_most : (k : ℕ) (number : List ℕ) → SpellsCount k number → length number ≤ 9
count_most k number h = omega (arith, count_size k number h, most_widths h.size)

abbrev first : List ℕ → ℕ
first [] = 0
first (x ∷ xs) = x

same_width : (s t : IntSize) → tag_of s ≡ tag_of t → byte_len (width_of s) ≡ byte_len (width_of t)
same_width int8 int8 e = refl
same_width int16 int16 e = refl
same_width int32 int32 e = refl
same_width int64 int64 e = refl
same_width int8 int16 e = absurd (omega (arith, e))
same_width int8 int32 e = absurd (omega (arith, e))
same_width int8 int64 e = absurd (omega (arith, e))
same_width int16 int8 e = absurd (omega (arith, e))
same_width int16 int32 e = absurd (omega (arith, e))
same_width int16 int64 e = absurd (omega (arith, e))
same_width int32 int8 e = absurd (omega (arith, e))
same_width int32 int16 e = absurd (omega (arith, e))
same_width int32 int64 e = absurd (omega (arith, e))
same_width int64 int8 e = absurd (omega (arith, e))
same_width int64 int16 e = absurd (omega (arith, e))
same_width int64 int32 e = absurd (omega (arith, e))

-- the tag at the start is that of the count
pub same_tag : (k b : ℕ) (number held more rest : List ℕ) (h : SpellsCount k number) → held ≡ b ∷ drop 1 held
    → held ++ more ≡ number ++ rest → b ≡ tag_of h.size
same_tag k b number held more rest h next e =
    sym (ap (λ l. first (l ++ more)) next) ∙ ap first e ∙ ap (λ l. first (l ++ rest)) h.spelled

-- what is needed at least is no more than the count has
pub need_least : (k need : ℕ) (number held more rest : List ℕ) → SpellsCount k number → CutInt held need
    → held ++ more ≡ number ++ rest → need ≤ length number
need_least k need number held more rest h cut e = go cut.tagged
  where
    go : (need ≤ 1) ⊎ IntTagged held need → need ≤ length number
    go (inl few) = omega (arith, few, count_least k number h)
    go (inr t) =
        let same = same_width t.size h.size (same_tag k (tag_of t.size) number held more rest h t.next e) in
        omega (arith, t.enough, same, count_size k number h)

-- a count that is there is the only one
pub same_count : (k n len : ℕ) (number held more rest : List ℕ) → SpellsCount k number → len ≤ length held → SpellsCount n (take len held)
    → held ++ more ≡ number ++ rest → len ≡ length number
same_count k n len number held more rest h within there e =
    let reader = named.int >>= named.natural NegativeLength in
    let split : held ++ more ≡ take len held ++ (drop len held ++ more) =
    ap (λ l. l ++ more) (sym (take-append-drop len held)) ∙ append_assoc (take len held) (drop len held) more in
    let one : reader (held ++ more) ≡ reads n (drop len held ++ more) = ap reader split ∙ counted_there NegativeLength n (take len held) there (drop len held ++ more) in
    let two : reader (number ++ rest) ≡ reads k rest = counted_there NegativeLength k number h rest in
    let same = same_answer n k (drop len held ++ more) rest (sym one ∙ ap reader e ∙ two) in
    omega (arith, within, ap length e, length-append held more, length-append number rest, ap length same.1, length-append (drop len held) more, length-drop len held)
