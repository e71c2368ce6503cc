-- How long a header is, by the bytes that came.
use Rattle.std.proofs.Common.{◌≡◌, ℕ, ◌+◌, ◌-◌, ◌≤◌, ◌<◌, max, Bool, true, false, append-nil, List, [], ◌∷◌, ◌++◌, length, take, drop, length-append, append_assoc, refl, sym, ap, ◌∙◌, arith, bytes_eq}
use Rattle.std.specs.Int.{w32, from_le_bytes}
use Rattle.std.proofs.lemmas.List.{length-take-le, length-drop, take-append-drop, drop_at}
use Rattle.std.proofs.Math.Seq.{take-length}
use Rattle.std.proofs.lemmas.Slice.Eq.{bytes_eq-Decides}
use Rattle.bser_format.specs.Grammar.{SpellsCount}
use Rattle.bser_format.specs.Message.{Head}
use Rattle.bser_format.specs.declared.errors.Error.{Error}
use Rattle.bser_format.specs.declared.errors.Error.TheVariants.{DeInvalidStartByte, DeInvalidMagic}
use Rattle.bser_format.specs.declared.errors.Kind.TheVariants.{Integer}
use Rattle.bser_format.specs.declared.errors.Complaint.TheVariants.{NegativeLength}
use Rattle.bser_format.specs.Named as named
use Rattle.bser_format.specs.Named.{Answer, reads, refuses, eof, give, and_then, complain, ◌>>=◌}
use Rattle.bser_bunser.proofs.Readers.{after_magic, after_four, other_magic, head_after_magic, front_there, counted_there, other_after, negative_there}
use Rattle.bser_bunser.specs.declared.prefix.Prefix.TheVariants.{Found}
use Rattle.bser_bunser.specs.declared.prefix.Prefix.TheVariants as prefixes
use Rattle.bser_bunser.specs.declared.prefix.Unexpected.{Unexpected}
use Rattle.bser_bunser.specs.declared.prefix.Unexpected.TheVariants.{Tag, Length, NegativeCount}
use Rattle.bser_bunser.specs.declared.prefix.Unexpected.TheVariants as unexpected
use Rattle.bser_bunser.specs.Prefixes.{CutInt, OtherTag, NegativeInt, IsLengthPrefix}
use Rattle.bser_frames.specs.Headers.{HeaderAtLeast, IsHeaderLength}
use Rattle.bser_frames.proofs.HeaderPrefixes.{count_least, count_most, same_tag, need_least, same_count}

-- ---- a header by its parts

-- six bytes, and the length of the body
record Parts (k : ℕ) (text : List ℕ) : Type 0 where
  before : List ℕ
  number : List ℕ
  whole : text ≡ before ++ number
  six : length before ≡ 6
  count : SpellsCount k number

parts : (c k : ℕ) (text : List ℕ) → Head c k text → Parts k text
parts c k text h =
    let s = h.1.second in
    let two : length h.1.front ≡ 2 = ap length h.1.first in
    let four : length s.front ≡ 4 = ap length s.first in
    record {
      before = h.1.front ++ s.front;
      number = s.rest;
      whole = h.1.whole ∙ ap (λ l. h.1.front ++ l) s.whole ∙ sym (append_assoc h.1.front s.front s.rest);
      six = omega (arith, length-append h.1.front s.front, two, four);
      count = s.second;
    }

-- a header has eight bytes or more, and fifteen at most
pub head_least : (c k : ℕ) (text : List ℕ) → Head c k text → 8 ≤ length text
head_least c k text h =
    let p = parts c k text h in
    omega (arith, ap length p.whole, length-append p.before p.number, p.six, count_least k p.number p.count)

-- the bytes behind the first six are the length of the body, and what follows it
behind : (k : ℕ) (bytes text more rest : List ℕ) (p : Parts k text) → 6 ≤ length bytes → bytes ++ more ≡ text ++ rest
    → drop 6 bytes ++ more ≡ p.number ++ rest
behind k bytes text more rest p long e =
    let split : bytes ++ more ≡ take 6 bytes ++ (drop 6 bytes ++ more) =
    ap (λ l. l ++ more) (sym (take-append-drop 6 bytes)) ∙ append_assoc (take 6 bytes) (drop 6 bytes) more in
    let there : text ++ rest ≡ p.before ++ (p.number ++ rest) = ap (λ l. l ++ rest) p.whole ∙ append_assoc p.before p.number rest in
    sym (drop_at (take 6 bytes) (drop 6 bytes ++ more) 6 (length-take-le 6 bytes long)) ∙ ap (drop 6) (sym split ∙ e ∙ there)
    ∙ drop_at p.before (p.number ++ rest) 6 p.six

-- ---- a header that is cut

-- what ends too early after a step that reads, ended too early before
unmapped : {X Y : Type 0} (f : X → Y) (a : Answer X) (e : Error) → and_then (λ x. give (f x)) a ≡ refuses e → a ≡ refuses e
unmapped f (reads x b) e p = cc
unmapped f (refuses d) e p = cc

said : {X : Type 0} → Answer X → Error
said (reads x b) = eof
said (refuses e) = e

-- an answer has one error
same_error : {X : Type 0} (a : Answer X) (d e : Error) → a ≡ refuses d → a ≡ refuses e → d ≡ e
unfolding said
same_error a d e p q = sym (ap (λ b. said b) p) ∙ ap (λ b. said b) q

six_bytes : (bytes : List ℕ) → 6 ≤ length bytes → bytes ≡ take 2 bytes ++ (take 4 (drop 2 bytes) ++ drop 6 bytes)
six_bytes (a ∷ b ∷ c ∷ d ∷ e ∷ f ∷ bytes) long = refl
six_bytes [] long = absurd (omega (arith, long))
six_bytes (a ∷ []) long = absurd (omega (arith, long))
six_bytes (a ∷ b ∷ []) long = absurd (omega (arith, long))
six_bytes (a ∷ b ∷ c ∷ []) long = absurd (omega (arith, long))
six_bytes (a ∷ b ∷ c ∷ d ∷ []) long = absurd (omega (arith, long))
six_bytes (a ∷ b ∷ c ∷ d ∷ e ∷ []) long = absurd (omega (arith, long))

abbrev after : List ℕ → named.Reader (ℕ × ℕ)
after m = after_magic

-- a header of which six bytes are there is cut in the length
cut_behind : (m c y : List ℕ) → length m ≡ 2 → length c ≡ 4 → named.head (m ++ (c ++ y)) ≡ refuses eof → named.size y ≡ refuses eof
cut_behind m c y two four cut = go (bytes_eq m (0x00 ∷ 0x02 ∷ [])) refl
  where
    go : (same : Bool) → bytes_eq m (0x00 ∷ 0x02 ∷ []) ≡ same → named.size y ≡ refuses eof
    go false other = absurd (let bad : refuses (DeInvalidMagic m) ≡ refuses eof = sym (ap (and_then after) (other_magic m (c ++ y) two other)) ∙ cut in cc)
    go true same =
        let magic : m ≡ 0x00 ∷ 0x02 ∷ [] = (bytes_eq-Decides m (0x00 ∷ 0x02 ∷ [])).0 same in
        let left : after_magic (c ++ y) ≡ refuses eof = sym (head_after_magic (c ++ y)) ∙ ap (λ l. named.head (l ++ (c ++ y))) (sym magic) ∙ cut in
        let read : after_four c y ≡ refuses eof = sym (ap (and_then after_four) (front_there 4 c four y)) ∙ left in
        unmapped (λ k. (from_le_bytes w32 c, k)) (named.size y) eof read

pub length_cut : (bytes : List ℕ) → 6 ≤ length bytes → named.head bytes ≡ refuses eof → named.size (drop 6 bytes) ≡ refuses eof
length_cut bytes long cut =
    cut_behind (take 2 bytes) (take 4 (drop 2 bytes)) (drop 6 bytes) (length-take-le 2 bytes (omega (arith, long)))
    (length-take-le 4 (drop 2 bytes) (omega (arith, long, length-drop 2 bytes))) (ap named.head (sym (six_bytes bytes long)) ∙ cut)

-- a length that is there is not cut
pub found_whole : (n len : ℕ) (held : List ℕ) → SpellsCount n (take len held) → named.size held ≡ refuses eof → ⊥
found_whole n len held there cut =
    let read : named.size held ≡ reads n (drop len held) = ap named.size (sym (take-append-drop len held)) ∙ counted_there NegativeLength n (take len held) there (drop len held) in
    let bad : reads n (drop len held) ≡ refuses eof = sym read ∙ cut in cc

-- nor is another tag
pub other_whole : (b : ℕ) (held : List ℕ) → OtherTag b held → named.size held ≡ refuses eof → ⊥
other_whole b held h cut =
    let read : named.size held ≡ refuses (DeInvalidStartByte Integer b) =
    ap named.size h.next ∙ ap (and_then (named.natural NegativeLength)) (other_after (DeInvalidStartByte Integer b) b (drop 1 held) h.other) in
    let same : DeInvalidStartByte Integer b ≡ eof = same_error (named.size held) (DeInvalidStartByte Integer b) eof read cut in cc

-- nor is a length below 0
pub negative_whole : (held : List ℕ) → NegativeInt held → named.size held ≡ refuses eof → ⊥
negative_whole held h cut =
    let read : named.size held ≡ refuses (complain NegativeLength) =
    ap named.size (sym (take-append-drop h.len held)) ∙ negative_there NegativeLength h.less (take h.len held) (drop h.len held) h.spelled in
    let same : complain NegativeLength ≡ eof = same_error (named.size held) (complain NegativeLength) eof read cut in cc

-- ---- how long the header is

-- the bytes from the seventh on
pub from_seventh : (bytes : List ℕ) → take (length bytes - 6) (drop 6 bytes) ≡ drop 6 bytes
from_seventh bytes = ap (λ n. take n (drop 6 bytes)) (sym (length-drop 6 bytes)) ∙ take-length (drop 6 bytes)

-- fewer bytes than those before the length
pub few_bytes : (bytes : List ℕ) → length bytes < 6 → IsHeaderLength bytes 8
few_bytes bytes few = record {
  least = λ c k text more rest h e. head_least c k text h;
  whole = λ c k text rest h e. absurd (omega (arith, few, head_least c k text h, ap length e, length-append text rest));
  cut = λ e. omega (arith, few);
  most = omega arith;
}

-- the length is there
pub found_length : (bytes : List ℕ) (n len : ℕ) → 6 ≤ length bytes → IsLengthPrefix (drop 6 bytes) (Found n len) → IsHeaderLength bytes (6 + len)
found_length bytes n len long h =
    let size : (c k : ℕ) (text more rest : List ℕ) → Head c k text → bytes ++ more ≡ text ++ rest → 6 + len ≡ length text = λ c k text more rest head e.
    let p = parts c k text head in
    let same = same_count k n len p.number (drop 6 bytes) more rest p.count h.0 h.1 (behind k bytes text more rest p long e) in
    omega (arith, same, ap length p.whole, length-append p.before p.number, p.six) in
    let few : len ≤ 9 = omega (arith, count_most n (take len (drop 6 bytes)) h.1, length-take-le len (drop 6 bytes) h.0) in
    record {
      least = λ c k text more rest head e. omega (arith, size c k text more rest head e);
      whole = λ c k text rest head e. size c k text [] rest head (append-nil bytes ∙ e);
      cut = λ e. absurd (found_whole n len (drop 6 bytes) h.1 (length_cut bytes long e));
      most = omega (arith, few);
    }

-- the length is cut
pub short_length : (bytes : List ℕ) (need : ℕ) → 6 ≤ length bytes → CutInt (drop 6 bytes) need → IsHeaderLength bytes (max 8 (6 + need))
short_length bytes need long h =
    let least : HeaderAtLeast bytes (max 8 (6 + need)) = λ c k text more rest head e.
    let p = parts c k text head in
    let enough = need_least k need p.number (drop 6 bytes) more rest p.count h (behind k bytes text more rest p long e) in
    omega (arith, enough, ap length p.whole, length-append p.before p.number, p.six, count_least k p.number p.count) in
    let fewer : length bytes < 6 + need = omega (arith, h.some, length-drop 6 bytes, long) in
    record {
      least = least;
      whole = λ c k text rest head e. absurd (omega (arith, fewer, least c k text [] rest head (append-nil bytes ∙ e), ap length e, length-append text rest));
      cut = λ e. omega (arith, fewer);
      most = omega (arith, h.most);
    }

-- something else is where the length is expected
none : (why : Unexpected) (held : List ℕ) → IsLengthPrefix held (prefixes.Unexpected why) → (k : ℕ) (number rest : List ℕ) → SpellsCount k number → held ≡ number ++ rest → ⊥
none (Length b) held h k number rest count e = h.other count.size (sym (same_tag k b number held [] rest count h.next (append-nil held ∙ e)))
none unexpected.NegativeLength held h k number rest count e =
    let read : named.size held ≡ reads k rest = ap named.size e ∙ counted_there NegativeLength k number count rest in
    let negative : named.size held ≡ refuses (complain NegativeLength) =
    ap named.size (sym (take-append-drop h.len held)) ∙ negative_there NegativeLength h.less (take h.len held) (drop h.len held) h.spelled in
    let bad : reads k rest ≡ refuses (complain NegativeLength) = sym read ∙ negative in cc
none (Tag b) held h k number rest count e = h
none NegativeCount held h k number rest count e = h

uncut : (why : Unexpected) (held : List ℕ) → IsLengthPrefix held (prefixes.Unexpected why) → named.size held ≡ refuses eof → ⊥
uncut (Length b) held h cut = other_whole b held h cut
uncut unexpected.NegativeLength held h cut = negative_whole held h cut
uncut (Tag b) held h cut = h
uncut NegativeCount held h cut = h

pub no_length : (bytes : List ℕ) (why : Unexpected) → 6 ≤ length bytes → IsLengthPrefix (drop 6 bytes) (prefixes.Unexpected why) → IsHeaderLength bytes 8
no_length bytes why long h = record {
  least = λ c k text more rest head e. head_least c k text head;
  whole = λ c k text rest head e.
      let p = parts c k text head in
      absurd (none why (drop 6 bytes) h k p.number rest p.count (sym (append-nil (drop 6 bytes)) ∙ behind k bytes text [] rest p long (append-nil bytes ∙ e)));
  cut = λ e. absurd (uncut why (drop 6 bytes) h (length_cut bytes long e));
  most = omega arith;
}
