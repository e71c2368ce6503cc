-- A newline begins a line, and other bytes pass columns alone.
use Rattle.std.proofs.Common.{◌≡◌, ℕ, zero, suc, ◌+◌, ◌-◌, ◌^◌, ◌<◌, ◌≤◌, min, cond, List, length, take, drop, get_or, count_by, true, false, Bool, ◌==◌, refl, ap, sym, subst, ◌∙◌, arith, add-one, take_all}
use Rattle.std.proofs.lemmas.Grind.{common_steps}
use Rattle.std.proofs.lemmas.List.{take-append-drop}
use Rattle.std.proofs.lemmas.List.Sums.{fold-append, fold_more, count_by_more_yes, count_by_more_no}
use Rattle.memchr.specs.Find.{Nowhere, NoneBefore, Passes, is_byte}
use Rattle.bser_from_json.specs.Lines.{begins_character, behind_byte, behind_bytes, more, place_in}
use Rattle.bser_from_json.specs.declared.fault.Place.{Place}

-- the place so many columns on, where a `usize` holds its column
abbrev across : Place → ℕ → Place
across p n = record { line = p.line; column = min (p.column + n) (2 ^ 64 - 1) }

not_newline : (b : Bool) → ¬ (b ≡ true) → b ≡ false
not_newline true = λ no. elim (no refl) [ ]
not_newline false = λ no. refl

byte_across : (p : Place) (n x : ℕ) (b : Bool) → (x == 10) ≡ false → begins_character x ≡ b → behind_byte (across p n) x ≡ across p (n + cond b 1 0)
byte_across p n x true line starts =
    let e : min (min (p.column + n) (2 ^ 64 - 1) + 1) (2 ^ 64 - 1) ≡ min (p.column + (n + 1)) (2 ^ 64 - 1) = omega arith in
    rw line (rw starts (ap (λ c. record { line = p.line; column = c }) e))
byte_across p n x false line starts =
    let e : min (p.column + n) (2 ^ 64 - 1) ≡ min (p.column + (n + 0)) (2 ^ 64 - 1) = omega arith in
    rw line (rw starts (ap (λ c. record { line = p.line; column = c }) e))

counted_on : (xs : List ℕ) (n : ℕ) (b : Bool) → n < length xs → begins_character (get_or xs n 0) ≡ b → count_by begins_character (take (n + 1) xs) ≡ count_by begins_character (take n xs) + cond b 1 0
counted_on xs n true lt e = count_by_more_yes begins_character xs n 0 lt e
counted_on xs n false lt e = count_by_more_no begins_character xs n 0 lt e ∙ omega arith

-- bytes without a newline
pub columns_passed : (n : ℕ) (xs : List ℕ) (p : Place) → p.column < 2 ^ 64 → n ≤ length xs → Nowhere (Passes (is_byte 10) xs) 0 n → behind_bytes p (take n xs) ≡ across p (count_by begins_character (take n xs))
columns_passed zero xs p fits long none =
    let e : p.column ≡ min (p.column + 0) (2 ^ 64 - 1) = omega (arith, fits) in
    ap (λ c. record { line = p.line; column = c }) e
columns_passed (suc n) xs p fits long none =
    let x = get_or xs n 0 in
    let before = columns_passed n xs p fits (omega (arith, long)) (λ k low high. none k low (omega (arith, high))) in
    let here = byte_across p (count_by begins_character (take n xs)) x (begins_character x) (not_newline (x == 10) (none n (omega arith) (omega arith))) refl in
    let one : behind_bytes p (take (n + 1) xs) ≡ behind_byte (behind_bytes p (take n xs)) x = fold_more behind_byte p xs n 0 (omega (arith, long)) in
    subst (λ m. behind_bytes p (take m xs) ≡ across p (count_by begins_character (take m xs))) (add-one n)
    (one ∙ ap (λ q. behind_byte q x) before ∙ here ∙ sym (ap (across p) (counted_on xs n (begins_character x) (omega (arith, long)) refl)))

-- bytes without a newline, to their end
pub all_passed : (xs : List ℕ) (p : Place) (c : ℕ) → p.column < 2 ^ 64 → Nowhere (Passes (is_byte 10) xs) 0 (length xs) → c ≡ min (p.column + count_by begins_character xs) (2 ^ 64 - 1) → behind_bytes p xs ≡ record { line = p.line; column = c }
all_passed xs p c fits none e =
    subst (λ ys. behind_bytes p ys ≡ across p (count_by begins_character ys)) (take_all (length xs) xs (omega arith)) (columns_passed (length xs) xs p fits (omega arith) none)
    ∙ ap (λ c. record { line = p.line; column = c }) (sym e)

-- a line up to its newline
pub line_passed : (xs rest : List ℕ) (n : ℕ) (p : Place) (l : ℕ) → p.column < 2 ^ 64 → NoneBefore (Passes (is_byte 10) xs) 0 (length xs) n → Passes (is_byte 10) xs n → rest ≡ drop (n + 1) xs → l ≡ more p.line → behind_bytes p xs ≡ behind_bytes (record { line = l; column = 1 }) rest
line_passed xs rest n p l fits none here e f =
    let lt = none.high in
    let line : behind_bytes p (take n xs) ≡ across p (count_by begins_character (take n xs)) = columns_passed n xs p fits (omega (arith, lt)) none.before in
    let newline : behind_byte (behind_bytes p (take n xs)) (get_or xs n 0) ≡ record { line = l; column = 1 } = ap (λ q. behind_byte q (get_or xs n 0)) line ∙ rw here (ap (λ k. record { line = k; column = 1 }) (sym f)) in
    let one : behind_bytes p (take (n + 1) xs) ≡ record { line = l; column = 1 } = fold_more behind_byte p xs n 0 lt ∙ newline in
    ap (behind_bytes p) (sym (take-append-drop (n + 1) xs)) ∙ fold-append behind_byte p (take (n + 1) xs) (drop (n + 1) xs) ∙ ap (λ q. behind_bytes q (drop (n + 1) xs)) one ∙ ap (behind_bytes (record { line = l; column = 1 })) (sym e)

-- behind the end of a text there is one place
pub place_past : (text : List ℕ) (n : ℕ) → length text < 2 ^ 64 → place_in text (min n (2 ^ 64 - 1)) ≡ place_in text n
place_past text n small =
    let same : take (min n (2 ^ 64 - 1)) text ≡ take n text = grind (arith, common_steps, small) in
    ap (behind_bytes (record { line = 1; column = 1 })) same
