-- A message by its head.
use Rattle.std.proofs.Common.{◌≡◌, ℕ, ◌+◌, ◌≤◌, List, ◌++◌, length, length-append, append_assoc, sym, ap, ◌∙◌, arith}
use Rattle.bser_format.specs.Tree.{Tree}
use Rattle.bser_format.specs.Message.{Head, IsMessage}
use Rattle.bser_format.proofs.Frames.{parts}
use Rattle.bser_format.proofs.OneHead.{one_head}

-- a message has as many bytes in its body as the head in front announces
pub body_size : (n c : ℕ) (t : Tree) (text : List ℕ) (m : IsMessage n c t text) (d k : ℕ) (head x y : List ℕ) → Head d k head → text ++ x ≡ head ++ y
    → (length m.body ≡ k) × (length text ≡ length head + k)
unfolding parts
body_size n c t text m d k head x y start e =
    let p = parts n c t text m in
    let all : p.head ++ (p.body ++ x) ≡ head ++ y = sym (append_assoc p.head p.body x) ∙ ap (λ l. l ++ x) (sym p.whole) ∙ e in
    let same = one_head c d (length p.body) k p.head head (p.body ++ x) y p.start start all in
    let whole : length text ≡ length p.head + length p.body = ap length p.whole ∙ length-append p.head p.body in
    let front : length p.head ≡ length head = ap length same.0 in
    (same.2, omega (arith, whole, front, same.2))

-- no head is empty
pub some_head : (c k : ℕ) (text : List ℕ) → Head c k text → 1 ≤ length text
some_head c k text h =
    let two : length h.1.front ≡ 2 = ap length h.1.first in
    omega (arith, ap length h.1.whole, length-append h.1.front h.1.rest, two)

-- no message is empty
pub some_message : (n c : ℕ) (t : Tree) (text : List ℕ) → IsMessage n c t text → 1 ≤ length text
some_message n c t text m =
    let p = parts n c t text m in
    let some = some_head c (length p.body) p.head p.start in
    omega (arith, ap length p.whole, length-append p.head p.body, some)
