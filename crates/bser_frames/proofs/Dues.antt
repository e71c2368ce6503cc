-- What came of a message that is due.
use Rattle.std.proofs.Common.{◌≡◌, ℕ, ◌-◌, ◌≤◌, ◌<◌, List, [], ◌++◌, Option, length, length-append, append-nil, append_assoc, sym, ap, subst, ◌∙◌, arith}
use Rattle.bser_format.specs.Message.{Head}
use Rattle.bser_format.specs.Named.{head, refuses, eof}
use Rattle.bser_format.proofs.OneHead.{one_head}
use Rattle.bser_source.specs.Pull.{Reads}
use Rattle.std.specs.Io.KnownBytes.{IsAtEnd}
use Rattle.bser_bunser.proofs.Readers.{nothing}
use Rattle.bser_messages.specs.Lengths.{HasLength}
use Rattle.bser_frames.specs.Headers.{AtLeast, HeaderAtLeast, IsDue, IsHeaderLength}
use Rattle.bser_frames.specs.Stops.{IsCut}
use Rattle.bser_frames.specs.Stream.{IsFrameWithin}

-- ---- one length

-- more bytes behind do not change it
pub longer : (bytes more : List ℕ) (n : ℕ) → HasLength bytes n → HasLength (bytes ++ more) n
longer bytes more n h = record {
  capabilities = h.capabilities;
  announced = h.announced;
  text = h.text;
  rest = h.rest ++ more;
  front = ap (λ b. b ++ more) h.front ∙ append_assoc h.text h.rest more;
  head = h.head;
  total = h.total;
}

pub same_length : (bytes : List ℕ) (n k : ℕ) → HasLength bytes n → HasLength bytes k → n ≡ k
same_length bytes n k p q =
    let same = one_head p.capabilities q.capabilities p.announced q.announced p.text q.text p.rest q.rest p.head q.head (sym p.front ∙ q.front) in
    omega (arith, p.total, q.total, ap length same.0, same.2)

-- the same after more bytes came
pub grown : (a b : Option (List ℕ)) (old new : List ℕ) (n : ℕ) → Reads a b old new → HasLength old n → HasLength new n
grown a b old new n r h = subst (λ l. HasLength l n) (sym r.items) (longer old r.more n h)

-- a message whose length is known has no fewer bytes
pub at_least : (bytes : List ℕ) (n : ℕ) → HasLength bytes n → AtLeast bytes n
at_least bytes n h more k l = omega (arith, same_length (bytes ++ more) n k (longer bytes more n h) l)

-- what came is no longer than its message
pub within : (most : ℕ) (bytes : List ℕ) (n : ℕ) → IsDue most bytes → HasLength bytes n → length bytes ≤ n
within most bytes n due h = due.least [] n (longer bytes [] n h)

-- a message has no fewer bytes than its header
header_bounds : (bytes : List ℕ) (n : ℕ) → HeaderAtLeast bytes n → AtLeast bytes n
header_bounds bytes n least more k h =
    omega (arith, h.total, least h.capabilities h.announced h.text more h.rest h.head h.front)

-- ---- what is due

-- nothing came
pub nothing_due : (most : ℕ) → IsDue most []
nothing_due most = record {
  least = λ more k h. omega arith;
  short = λ c k text rest h e more. nothing rest (omega (arith, ap length e, length-append text rest));
}

-- no more came than a header has
pub header_due : (most : ℕ) (a b : Option (List ℕ)) (old new : List ℕ) (n : ℕ) → HeaderAtLeast old n → Reads a b old new → length new ≤ n → IsDue most new
header_due most a b old new n least r few =
    let all : (more : List ℕ) → old ++ (r.more ++ more) ≡ new ++ more = λ more. sym (ap (λ l. l ++ more) r.items ∙ append_assoc old r.more more) in
    let text_least : (c k : ℕ) (text more rest : List ℕ) → Head c k text → new ++ more ≡ text ++ rest → n ≤ length text = λ c k text more rest h e.
    least c k text (r.more ++ more) rest h (all more ∙ e) in
    record {
      least = λ more k h. omega (arith, few, h.total, text_least h.capabilities h.announced h.text more h.rest h.head h.front);
      short = λ c k text rest h e more. nothing rest (omega (arith, few, text_least c k text [] rest h (append-nil new ∙ e), ap length e, length-append text rest));
    }

-- no more came than the message has, whose body is short enough
pub body_due : (most n : ℕ) (a b : Option (List ℕ)) (old new : List ℕ) (h : HasLength old n) → h.announced ≤ most → Reads a b old new → length new ≤ n → IsDue most new
body_due most n a b old new h short r few =
    let g : HasLength new n = grown a b old new n r h in
    let front : new ≡ h.text ++ (h.rest ++ r.more) = r.items ∙ ap (λ l. l ++ r.more) h.front ∙ append_assoc h.text h.rest r.more in
    record {
      least = λ more k l. omega (arith, few, at_least new n g more k l);
      short = λ c k text rest head e more.
          let same = one_head c h.capabilities k h.announced text h.text rest (h.rest ++ r.more) head h.head (sym e ∙ front) in
          absurd (omega (arith, short, more, same.2));
    }

-- ---- what is answered

-- how many bytes a header announces
pub announced_there : (bytes : List ℕ) (n size : ℕ) (h : HasLength bytes n) → IsHeaderLength bytes size → h.announced ≡ n - size
announced_there bytes n size h s =
    omega (arith, h.total, s.whole h.capabilities h.announced h.text h.rest h.head h.front)

-- a header that is no longer than the message
pub header_fits : (bytes : List ℕ) (n size : ℕ) → HasLength bytes n → IsHeaderLength bytes size → size ≤ n
header_fits bytes n size h s =
    omega (arith, h.total, s.whole h.capabilities h.announced h.text h.rest h.head h.front)

-- a header that is cut
pub cut_header : (a b : Option (List ℕ)) (old new : List ℕ) (have want : ℕ) → head old ≡ refuses eof → IsHeaderLength old want → Reads a b old new
    → have ≡ length old → length new ≡ length old → 0 < have → IsAtEnd b → IsCut have want new b
cut_header a b old new have want cut s r held same some end = record {
  count = same ∙ sym held;
  some = some;
  fewer = omega (arith, held, s.cut cut);
  least = header_bounds new want (λ c k text more rest h e.
      s.least c k text (r.more ++ more) rest h (sym (ap (λ l. l ++ more) r.items ∙ append_assoc old r.more more) ∙ e));
  exact = λ n h.
      let long = s.least h.capabilities h.announced h.text r.more h.rest h.head (sym r.items ∙ h.front) in
      omega (arith, long, s.cut cut, same, ap length h.front, length-append h.text h.rest);
  end = end;
}

-- all of it came
pub whole_frame : (most n : ℕ) (a b : Option (List ℕ)) (old new : List ℕ) (h : HasLength old n) → h.announced ≤ most → Reads a b old new → length new ≡ n → IsFrameWithin most new
whole_frame most n a b old new h short r all = record {
  whole = record {
    capabilities = h.capabilities;
    announced = h.announced;
    text = h.text;
    rest = h.rest ++ r.more;
    front = r.items ∙ ap (λ l. l ++ r.more) h.front ∙ append_assoc h.text h.rest r.more;
    head = h.head;
    total = all ∙ h.total;
  };
  short = short;
}
