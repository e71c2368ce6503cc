-- What the plain readers read off what is spelled, and where they find an early end.
use Rattle.std.proofs.Common.{◌≡◌, ℕ, ◌<◌, ℤ, pos, false, cond, List, [], ◌∷◌, ◌++◌, length, take, drop, append_assoc, refl, sym, ap, ◌∙◌, arith, inl, inr, bytes_eq}
use Rattle.std.specs.Prelude.{negsuc}
use Rattle.std.proofs.lemmas.Bool.{lt-ltb, ne_eqb}
use Rattle.std.specs.Int.{w32, to_le_bytes, from_le_bytes, cast_signed, byte_len}
use Rattle.bser_format.specs.Grammar.{IntSize, int8, int16, int32, int64, tag_of, width_of, SpellsInteger}
use Rattle.bser_format.specs.Message.{Head}
use Rattle.bser_format.specs.declared.errors.Error.{Error}
use Rattle.bser_format.specs.declared.errors.Error.TheVariants.{DeInvalidMagic}
use Rattle.bser_format.specs.declared.errors.Complaint.{Complaint}
use Rattle.bser_format.specs.declared.errors.Complaint.TheVariants.{NegativeLength}
use Rattle.bser_format.proofs.Fronts.{int_reads, front_reads, counted_reads}
use Rattle.bser_format.proofs.Messages.{head_reads}
use Rattle.bser_format.specs.Named as named
use Rattle.bser_format.specs.Named.{Reader, eof, refuses, reads, complain, and_then, ◌>>=◌, give, refuse}
use Rattle.bser_format.proofs.Steps.{Passes}
use Rattle.bser_bunser.specs.Names.{IsCutInteger}
use Rattle.bser_bunser.specs.Tagged.{SpellsCounted}

-- ---- what is read

-- as many bytes
pub front_there : (n : ℕ) (s : List ℕ) → length s ≡ n → Passes (named.front n) s s
front_there n s e x = front_reads n s x e

-- an integer
pub int_there : (v : ℤ) (text : List ℕ) → SpellsInteger v text → Passes named.int v text
int_there v text h x = int_reads v text x h

-- a length or a count
pub counted_there : (c : Complaint) (n : ℕ) (text : List ℕ) → SpellsInteger (pos n) text
    → Passes (named.int >>= named.natural c) n text
counted_there c n text h x = counted_reads c n text x h

-- a string after its tag
pub string_there : (s text : List ℕ) → SpellsCounted s text → Passes named.string s text
string_there s text h x =
    ap (λ l. named.string (l ++ x)) h.whole ∙ ap named.string (append_assoc h.number s x)
    ∙ ap (and_then named.front) (counted_there NegativeLength (length s) h.number h.count (s ++ x))
    ∙ front_there (length s) s refl x

-- ---- a message's head

-- the capabilities and the length
abbrev pub after_magic : Reader (ℕ × ℕ)
after_magic = named.front 4 >>= λ c. named.size >>= λ k. give (from_le_bytes w32 c, k)

-- the length, after these capabilities
abbrev pub after_four : List ℕ → Reader (ℕ × ℕ)
after_four c = named.size >>= λ k. give (from_le_bytes w32 c, k)

abbrev magic_or : List ℕ → Reader (List ℕ)
magic_or s = cond (bytes_eq s (0x00 ∷ 0x02 ∷ [])) (give s) (refuse (DeInvalidMagic s))

pub head_after_magic : (x : List ℕ) → named.head ((0x00 ∷ 0x02 ∷ []) ++ x) ≡ after_magic x
head_after_magic x =
    ap (λ o. and_then (λ m. after_magic) (and_then magic_or o)) (front_there 2 (0x00 ∷ 0x02 ∷ []) refl x)

pub magic_after_four : (c : ℕ) (x : List ℕ)
    → after_magic (to_le_bytes w32 c ++ x) ≡ after_four (to_le_bytes w32 c) x
magic_after_four c x = ap (and_then after_four) (front_there 4 (to_le_bytes w32 c) refl x)

-- other bytes than the magic
pub other_magic : (s x : List ℕ) → length s ≡ 2 → bytes_eq s (0x00 ∷ 0x02 ∷ []) ≡ false
    → named.magic (s ++ x) ≡ refuses (DeInvalidMagic s)
other_magic s x e other =
    ap (and_then magic_or) (front_there 2 s e x) ∙ ap (λ c. cond c (give s) (refuse (DeInvalidMagic s)) x) other

-- a message's head
pub head_there : (c k : ℕ) (text : List ℕ) → Head c k text → Passes named.head (c, k) text
head_there c k text h x = head_reads c k text x h

-- ---- what is refused

-- fewer bytes
pub cut_front : (n : ℕ) (x : List ℕ) → length x < n → named.front n x ≡ refuses eof
cut_front n x h =
    ap (λ c. cond c (refuses eof) (reads (take n x) (drop n x))) (lt-ltb (length x) n h)

-- no byte
pub nothing : (x : List ℕ) → length x < 1 → x ≡ []
nothing [] h = refl
nothing (y ∷ ys) h = absurd (omega (arith, h))

-- a number of fewer bytes than there are
cut_number : (s : IntSize) (y : List ℕ) → length y < byte_len (width_of s)
    → named.number s y ≡ refuses eof
cut_number s y h =
    ap (and_then (λ b. give (cast_signed (width_of s) (from_le_bytes (width_of s) b)))) (cut_front (byte_len (width_of s)) y h)

-- the same after its tag, whatever another tag is refused by
pub cut_after : (e : Error) (s : IntSize) (y : List ℕ) → length y < byte_len (width_of s)
    → named.int_after e (tag_of s) y ≡ refuses eof
cut_after e int8 y h = cut_number int8 y h
cut_after e int16 y h = cut_number int16 y h
cut_after e int32 y h = cut_number int32 y h
cut_after e int64 y h = cut_number int64 y h

-- an integer that is cut short
pub int_cut : (x : List ℕ) → IsCutInteger x → named.int x ≡ refuses eof
int_cut x (inl e) = ap named.int e
int_cut x (inr h) = ap named.int h.whole ∙ cut_after _ h.size h.rest h.fewer

-- a byte that is no integer's tag
pub other_after : (e : Error) (b : ℕ) (y : List ℕ) → ((s : IntSize) → tag_of s ≡ b → ⊥)
    → named.int_after e b y ≡ refuses e
other_after e b y other =
    rw (ne_eqb b 3 (λ k. other int8 (sym k)), ne_eqb b 4 (λ k. other int16 (sym k)), ne_eqb b 5 (λ k. other int32 (sym k)), ne_eqb b 6 (λ k. other int64 (sym k))) refl

-- an integer below 0 where a length or a count is due
pub negative_there : (c : Complaint) (k : ℕ) (text x : List ℕ) → SpellsInteger (negsuc k) text
    → (named.int >>= named.natural c) (text ++ x) ≡ refuses (complain c)
negative_there c k text x h = ap (and_then (named.natural c)) (int_there (negsuc k) text h x)
