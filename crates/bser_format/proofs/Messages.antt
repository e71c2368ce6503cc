-- The plain reader of messages reads exactly the messages.
use Rattle.std.proofs.Common.{◌≡◌, ◌↔◌, ℕ, ◌+◌, ◌-◌, ◌^◌, ◌<◌, Bool, true, false, cond, List, [], ◌∷◌, ◌++◌, length, Some, refl, sym, ap, subst, ◌∙◌, append_assoc, length-append, nat_eq, nat_lt, bytes_eq, arith}
use Rattle.std.proofs.lemmas.Bool.{ltb-true, lt-ltb, eqb-true, eqb-false}
use Rattle.std.proofs.lemmas.Slice.Eq.{bytes_eq-Decides}
use Rattle.std.specs.Int.{w32, to_le_bytes, from_le_bytes}
use Rattle.bser_format.specs.Tree.{Tree}
use Rattle.bser_format.specs.Expand.{expand}
use Rattle.bser_format.specs.Grammar.{Format, Bytes, SpellsCount, Spells, int32}
use Rattle.bser_format.specs.Message.{Head, IsMessage}
use Rattle.bser_format.specs.Content.{Content, Meaning}
use Rattle.bser_format.specs.Expected.{node_due}
use Rattle.bser_format.specs.declared.errors.Error.TheVariants.{DeInvalidMagic, DeEof}
use Rattle.bser_format.specs.declared.errors.Error.{Error}
use Rattle.bser_format.specs.declared.errors.Complaint.TheVariants.{NegativeLength, CountTooGreat}
use Rattle.bser_format.specs.Named.{Reader, reads, give, refuse, complain, and_then, ◌>>=◌, front, size, magic, head, any, ends, ends_at, message}
use Rattle.bser_format.specs.Plain as plain
use Rattle.bser_format.specs.Plain.{forget}
use Rattle.bser_format.specs.Asks.{Asks}
use Rattle.bser_format.specs.TypeLaws.{Passes}
use Rattle.bser_format.proofs.Fronts.{Reads, reads_then, reads_last, counted_reads, front_reads, from_to_le_bytes, value_reads}
use Rattle.bser_format.proofs.Sound.{IsBytes, Sound, Exactly, le_bytes_back, byte_at, front_sound, counted_sound, then_front, as_front, given_front, bind_sound, only, if_sound, give_sound, refuse_sound}
use Rattle.bser_format.proofs.Sifting.{then_reads, same_answer}
use Rattle.bser_format.proofs.Frames.{framed, parts}
use Rattle.bser_format.proofs.Exact.{reads_spelled, forgotten}

-- ---- the head

abbrev Kept : List ℕ → List ℕ → Format
Kept s u b = (b ≡ []) × (s ≡ u) × (bytes_eq s (0x00 ∷ 0x02 ∷ []) ≡ true)

magic_sound : Sound magic (λ s. Bytes (0x00 ∷ 0x02 ∷ []))
magic_sound = bind_sound (front 2) (λ s. cond (bytes_eq s (0x00 ∷ 0x02 ∷ [])) (give s) (refuse (DeInvalidMagic s))) (Exactly 2) Kept (λ s. Bytes (0x00 ∷ 0x02 ∷ [])) (front_sound 2)
    (λ s. if_sound (bytes_eq s (0x00 ∷ 0x02 ∷ [])) (give s) (refuse (DeInvalidMagic s)) (Kept s) (λ e. give_sound s (Kept s) (refl, refl, e)) (λ e. refuse_sound (DeInvalidMagic s) (Kept s)))
    (λ s u b h. (only (Exactly 2 s) (Kept s u) b h h.second.0).1 ∙ (bytes_eq-Decides s (0x00 ∷ 0x02 ∷ [])).0 h.second.2)

head_sound : Sound head (λ p. Head p.0 p.1)
head_sound b y p all e =
    then_reads (λ m. front 4 >>= λ c. size >>= λ k. give (from_le_bytes w32 c, k)) (magic b) p y e λ m c first more.
    then_reads (λ c. size >>= λ k. give (from_le_bytes w32 c, k)) (front 4 c) p y more λ cs d second more_size.
    then_reads (λ k. give (from_le_bytes w32 cs, k)) (size d) p y more_size λ k g third last.
    let f = magic_sound b c m all first in
    let s = front_sound 4 c d cs f.rest second in
    let q = counted_sound NegativeLength d g k s.rest third in
    let back = le_bytes_back int32 cs s.form.0 (byte_at cs s.form.2) in
    given_front (λ h. Head h.0 h.1) (from_le_bytes w32 cs, k) p b g y last (as_front (then_front f (then_front (as_front s (λ w h. h.1 ∙ sym back.1)) q)) (λ w h. (back.0, h)))

bytes_reads : (n : ℕ) (s : List ℕ) → length s ≡ n → Reads (front n) (Bytes s) s
bytes_reads n s l b y e = ap (λ c. front n (c ++ y)) e ∙ front_reads n s y l

magic_reads : Reads magic (Bytes (0x00 ∷ 0x02 ∷ [])) (0x00 ∷ 0x02 ∷ [])
magic_reads = reads_last (front 2) (λ s. cond (bytes_eq s (0x00 ∷ 0x02 ∷ [])) (give s) (refuse (DeInvalidMagic s))) (Bytes (0x00 ∷ 0x02 ∷ [])) (0x00 ∷ 0x02 ∷ []) (0x00 ∷ 0x02 ∷ []) (bytes_reads 2 _ refl) (λ w. refl)

pub head_reads : (c k : ℕ) → Reads head (Head c k) (c, k)
head_reads c k b y h =
    reads_then magic (λ m. front 4 >>= λ cs. size >>= λ j. give (from_le_bytes w32 cs, j)) _ _ (0x00 ∷ 0x02 ∷ []) _ magic_reads
    (reads_then (front 4) (λ cs. size >>= λ j. give (from_le_bytes w32 cs, j)) _ _ (to_le_bytes w32 c) _ (bytes_reads 4 _ refl)
    (reads_last size (λ j. give (from_le_bytes w32 (to_le_bytes w32 c), j)) (SpellsCount k) k (c, k) (counted_reads NegativeLength k) (λ w. ap (λ z. reads (z, k) w) (from_to_le_bytes int32 c h.0)))) b y h.1

-- ---- the end

both_true : {X : Type 0} (a b : Bool) (f g : Error) (x z : X) (c y : List ℕ) → cond a (cond b (give x) (refuse f)) (refuse g) c ≡ reads z y → (a ≡ true) × (b ≡ true) × (reads x c ≡ reads z y)
both_true true true f g x z c y e = (refl, refl, e)
both_true true false f g x z c y e = absurd cc
both_true false b f g x z c y e = absurd cc

pub ends_reads : {X : Type 0} (start k now : ℕ) (x z : X) (c y : List ℕ) → ends start k now x c ≡ reads z y → (start + k < 2 ^ 63) × (start + k ≡ now) × (x ≡ z) × (c ≡ y)
ends_reads start k now x z c y e =
    let one = both_true (nat_lt (start + k) (2 ^ 63)) (nat_eq (start + k) now) (DeEof (start + k) now) (complain CountTooGreat) x z c y e in
    let same = same_answer x z c y one.2 in
    (ltb-true (start + k) (2 ^ 63) one.0, eqb-true (start + k) now one.1, same.0, same.1)

eq-eqb : (a b : ℕ) → a ≡ b → nat_eq a b ≡ true
eq-eqb a b same = go (nat_eq a b) refl
  where
    go : (c : Bool) → nat_eq a b ≡ c → c ≡ true
    go true e = refl
    go false e = absurd (eqb-false a b e same)

ends_there : {X : Type 0} (start k now : ℕ) (x : X) (c : List ℕ) → start + k < 2 ^ 63 → start + k ≡ now → ends start k now x c ≡ reads x c
ends_there start k now x c small same =
    ap (λ a. cond a (cond (nat_eq (start + k) now) (give x) (refuse (DeEof (start + k) now))) (refuse (complain CountTooGreat)) c) (lt-ltb (start + k) (2 ^ 63) small)
    ∙ ap (λ a. cond a (give x) (refuse (DeEof (start + k) now)) c) (eq-eqb (start + k) now same)

-- ---- messages

is_message : (n c : ℕ) (b y : List ℕ) (t : Tree) → IsBytes b → message (any n) b ≡ reads (c, t) y → (a : List ℕ) × (b ≡ a ++ y) × IsMessage n c t a
is_message n c b y t all e =
    then_reads (λ h d. and_then (λ x. ends_at b d h.1 (h.0, x)) (any n d)) (head b) (c, t) y e λ h rest one more.
    then_reads (λ x. ends_at b rest h.1 (h.0, x)) (any n rest) (c, t) y more λ u d two last.
    let f = head_sound b rest h all one in
    let v = (reads_spelled n rest d u f.rest).0 two in
    let z = ends_reads (length b - length rest) h.1 (length b - length d) (h.0, u) (c, t) d y last in
    let whole : b ≡ (f.part ++ v.0) ++ d = f.whole ∙ ap (λ l. f.part ++ l) v.1 ∙ sym (append_assoc f.part v.0 d) in
    let one_len : length b ≡ length f.part + length rest = ap length f.whole ∙ length-append f.part rest in
    let two_len : length rest ≡ length v.0 + length d = ap length v.1 ∙ length-append v.0 d in
    let len : length v.0 ≡ h.1 = omega (arith, z.1, one_len, two_len) in
    let short : length (f.part ++ v.0) < 2 ^ 63 = omega (arith, z.0, len, one_len, two_len, length-append f.part v.0) in (
      f.part ++ v.0,
      whole ∙ ap (λ l. (f.part ++ v.0) ++ l) z.3,
      subst (λ p. IsMessage n p.0 p.1 (f.part ++ v.0)) z.2 (framed n h.0 h.1 u f.part v.0 f.form len v.2 short),
    )

-- a message whose body r reads
pub message_reads : {X : Type 0} (r : Reader X) (v : X) (n c : ℕ) (t : Tree) → Reads r (Spells n t) v → Reads (message r) (IsMessage n c t) (c, v)
message_reads r v n c t one b y h =
    let p = parts n c t b h in
    let k : ℕ = length p.body in
    let whole : b ++ y ≡ p.head ++ (p.body ++ y) = ap (λ l. l ++ y) p.whole ∙ append_assoc p.head p.body y in
    let all_len : length (b ++ y) ≡ length p.head + length (p.body ++ y) = ap length whole ∙ length-append p.head (p.body ++ y) in
    let b_len : length b ≡ length p.head + k = ap length p.whole ∙ length-append p.head p.body in
    let rest_len : length (p.body ++ y) ≡ k + length y = length-append p.body y in
    let short = h.short in
    ap (and_then (λ m d. and_then (λ x. ends_at (b ++ y) d m.1 (m.0, x)) (r d))) (ap head whole ∙ head_reads c k p.head (p.body ++ y) p.start)
    ∙ ap (and_then (λ x. ends_at (b ++ y) (p.body ++ y) k (c, x))) (one p.body y p.value)
    ∙ ends_there (length (b ++ y) - length (p.body ++ y)) k (length (b ++ y) - length y) (c, v) y (omega (arith, all_len, b_len, short)) (omega (arith, all_len, rest_len))

-- the message of any tree
pub tree_reads : (n c : ℕ) (t : Tree) → Reads (message (any n)) (IsMessage n c t) (c, t)
tree_reads n c t = message_reads (any n) t n c t (value_reads n t)

pub reads_messages : (n c : ℕ) (b y : List ℕ) (t : Tree) → IsBytes b → (message (any n) b ≡ reads (c, t) y) ↔ ((a : List ℕ) × (b ≡ a ++ y) × IsMessage n c t a)
reads_messages n c b y t all = (is_message n c b y t all, λ h. ap (message (any n)) h.1 ∙ tree_reads n c t h.0 y h.2)

pub message_exact : (n c : ℕ) (b y : List ℕ) (t : Tree) → IsBytes b → (plain.message n b ≡ Some ((c, t), y)) ↔ ((a : List ℕ) × (b ≡ a ++ y) × IsMessage n c t a)
message_exact n c b y t all = let exact = reads_messages n c b y t all in (λ e. exact.0 (forgotten (message (any n) b) (c, t) y e), λ h. ap forget (exact.1 h))

-- a message whose value a type reads, the reader of such a type passes over
pub message_passes : (A : Asks) (R : Meaning) → Passes A R → (n c : ℕ) (t : Tree) (k : Content) (a y : List ℕ) → IsMessage n c t a → R (expand t) ≡ Some k → message (A 0 n node_due) (a ++ y) ≡ reads (c, tt) y
message_passes A R pass n c t k a y h r = message_reads (A 0 n node_due) tt n c t (λ b x s. pass 0 n node_due (expand t) k b x (record { tree = t; stands = refl; spelled = s }) r) a y h
