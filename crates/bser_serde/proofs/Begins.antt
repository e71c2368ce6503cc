-- A header, and a value as long as it says, are a message.
use Rattle.std.proofs.Common.{◌≡◌, ℕ, suc, ◌+◌, ◌-◌, ◌<◌, ◌≤◌, ◌^◌, List, [], ◌∷◌, ◌++◌, length, take, get_or, append_assoc, length-append, refl, sym, ap, subst, ◌∙◌, arith, Fits, w8}
use Rattle.std.specs.Int.{w32, from_le_bytes}
use Rattle.std.proofs.lemmas.Bool.{lt-ltb, eq-eqb}
use Rattle.std.proofs.lemmas.List.{take_rest}
use Rattle.bser_format.specs.Tree.{Tree}
use Rattle.bser_format.specs.Message.{IsMessage}
use Rattle.bser_format.specs.declared.errors.Complaint.{Complaint}
use Rattle.bser_format.specs.declared.errors.Complaint.TheVariants.{NegativeLength}
use Rattle.bser_format.specs.Named.{Answer, reads, refuses, give, and_then, head, ends, ends_at, message, with_text_keys}
use Rattle.bser_format.proofs.Sound.{IsBytes}
use Rattle.bser_format.proofs.Frames.{parts}
use Rattle.bser_format.proofs.TextLaws.{reads_text_key_messages}
use Rattle.bser_bunser.proofs.Readers.{after_four, head_after_magic, head_there}
use Rattle.bser_serde.specs.HasMessage.{HasMessage, HasHeader, IsFilled}
use Rattle.bser_serde.specs.declared.message.Headed.{Headed}
use Rattle.bser_events.specs.Takes.{counting}
use Rattle.bser_events.proofs.AtStart.{behind, front_cut}

-- a slice's bytes are bytes
pub octets : (b : List ℕ) → ((i : ℕ) → Fits w8 (get_or b i 0)) → IsBytes b
octets [] h = tt
octets (x ∷ b) h = ((h 0).fits, octets b (λ i. h (suc i)))

-- the value ends where the header said
ends_there : {X : Type 0} (start k now : ℕ) (x : X) (c : List ℕ) → start + k < 2 ^ 63 → start + k ≡ now → ends start k now x c ≡ reads x c
ends_there start k now x c small same = rw (lt-ltb (start + k) (2 ^ 63) small, eq-eqb (start + k) now same) refl

-- a header, after the two bytes that begin it
header : (x body : List ℕ) (len : ℕ) → 4 ≤ length x → counting NegativeLength (behind 4 x) ≡ reads len body
    → head (0x00 ∷ 0x02 ∷ x) ≡ reads (from_le_bytes w32 (take 4 x), len) body
header x body len long count =
    head_after_magic x ∙ ap (and_then after_four) (front_cut 4 x long) ∙ ap (and_then (λ k. give (from_le_bytes w32 (take 4 x), k))) count

-- the length that a header says
length_of : Answer (ℕ × ℕ) → ℕ
length_of (reads h b) = h.1
length_of (refuses e) = 0

same_length : (c k m : ℕ) (x y b : List ℕ) → head b ≡ reads (c, k) x → head b ≡ reads (c, m) y → m ≡ k
unfolding length_of
same_length c k m x y b p q = ap length_of (sym q ∙ p)

-- a message's body is as long as its header says
body_length : (n c k : ℕ) (t : Tree) (a rest body b : List ℕ) (m : IsMessage n c t a) → b ≡ a ++ rest → head b ≡ reads (c, k) body → length m.body ≡ k
unfolding parts
body_length n c k t a rest body b m front h =
    let p = parts n c t a m in
    let whole : b ≡ p.head ++ (p.body ++ rest) = front ∙ ap (λ l. l ++ rest) p.whole ∙ append_assoc p.head p.body rest in
    same_length c k (length p.body) body (p.body ++ rest) b h (ap head whole ∙ head_there c (length p.body) p.head p.start (p.body ++ rest))

-- where a header is, and a value fills the body, there is a message
pub has_message : (levels most : ℕ) (b : List ℕ) (body : Headed) → IsBytes b → length b < 2 ^ 63 → HasHeader most b body → IsFilled levels body
    → HasMessage levels most b body.start body.len
has_message levels most b body all small h f =
    let c = h.capabilities in
    let t = f.value.0 in
    let within = h.whole in
    let same = f.whole in
    let start = length b - length body.bytes.now in
    let read : message (with_text_keys levels) b ≡ reads (c, t) f.rest =
    ap (and_then (λ k e. and_then (λ z. ends_at b e k.1 (k.0, z)) (with_text_keys levels e))) h.read
    ∙ ap (and_then (λ z. ends_at b body.bytes.now body.len (c, z))) f.value.1
    ∙ ends_there start body.len (length b - length f.rest) (c, t) f.rest (omega (arith, within, same, small)) (omega (arith, within, same)) in
    let exact = (reads_text_key_messages levels c b f.rest t all).0 read in
    let long = body_length levels c body.len t exact.0 f.rest body.bytes.now b exact.2 exact.1 h.read in
    record {
      text = exact.0;
      rest = f.rest;
      capabilities = c;
      tree = t;
      front = exact.1;
      message = exact.2;
      short = subst (λ k. k ≤ most) (sym long) h.short;
      keys = exact.3;
      body = long;
      whole = omega (arith, within, same, ap length exact.1, length-append exact.0 f.rest);
    }

-- the header's first two bytes, its capabilities and the length that it says
pub has_header : (most : ℕ) (b : List ℕ) (body : Headed) → 6 ≤ length b → get_or b 0 0 ≡ 0x00 → get_or b 1 0 ≡ 0x02
    → ((k : Complaint) → counting k (behind 6 b) ≡ reads body.len body.bytes.now) → body.len ≤ most → body.start + length body.bytes.now ≡ length b
    → HasHeader most b body
has_header most [] body long first second count short whole = absurd (omega (arith, long))
has_header most (a ∷ []) body long first second count short whole = absurd (omega (arith, long))
has_header most (a ∷ d ∷ x) body long first second count short whole =
    let is : a ∷ d ∷ x ≡ 0x00 ∷ 0x02 ∷ x = ap (λ k. k ∷ d ∷ x) first ∙ ap (λ k. 0x00 ∷ k ∷ x) second in
    let there : behind 4 x ≡ behind 6 (a ∷ d ∷ x) = take_rest x 4 ∙ sym (take_rest (a ∷ d ∷ x) 6) in record {
      capabilities = from_le_bytes w32 (take 4 x);
      read = ap head is ∙ header x body.bytes.now body.len (omega (arith, long)) (ap (counting NegativeLength) there ∙ count NegativeLength);
      short = short;
      whole = whole;
    }
