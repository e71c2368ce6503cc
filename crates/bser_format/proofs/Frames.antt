-- A message is its head and its body.
use Rattle.std.proofs.Common.{◌≡◌, ℕ, ◌<◌, ◌^◌, List, [], ◌∷◌, ◌++◌, length, refl, sym, ap, subst, ◌∙◌, append_assoc}
use Rattle.std.specs.Int.{w32, to_le_bytes}
use Rattle.bser_format.specs.Tree.{Tree}
use Rattle.bser_format.specs.Grammar.{Format, Bytes, SpellsCount, Spells, ◌then◌}
use Rattle.bser_format.specs.Message.{Head, IsMessage}

-- a format's text and more after it
then_more : (F G H : Format) (c : List ℕ) → ((x : List ℕ) → G x → H (x ++ c)) → (b : List ℕ) → (F then G) b → (F then H) (b ++ c)
then_more F G H c more b p = record { front = p.front; rest = p.rest ++ c; whole = ap (λ l. l ++ c) p.whole ∙ append_assoc p.front p.rest c; first = p.first; second = more p.rest p.second }

-- a head, and as many bytes as it says that spell a value
pub framed : (n c k : ℕ) (t : Tree) (head body : List ℕ) → Head c k head → length body ≡ k → Spells n t body → length (head ++ body) < 2 ^ 63 → IsMessage n c t (head ++ body)
framed n c k t head body start len value short =
    record {
      body = body;
      capabilities = start.0;
      whole = then_more (Bytes (0x00 ∷ 0x02 ∷ [])) (Bytes (to_le_bytes w32 c) then SpellsCount k) _ body
          (then_more (Bytes (to_le_bytes w32 c)) (SpellsCount k) _ body
          (λ x p. record { front = x; rest = body; whole = refl; first = subst (λ m. SpellsCount m x) (sym len) p; second = refl })) head start.1;
      value = value;
      short = short;
    }

-- what a message is made of
pub record Parts (n c : ℕ) (t : Tree) (b : List ℕ) : Type 0 where
  pub head : List ℕ
  pub body : List ℕ
  pub whole : b ≡ head ++ body
  pub start : Head c (length body) head
  pub value : Spells n t body

unfoldable pub parts : (n c : ℕ) (t : Tree) (b : List ℕ) → IsMessage n c t b → Parts n c t b
parts n c t b m =
    let after_magic = m.whole.second in
    let after_four = after_magic.second in
    record {
      head = m.whole.front ++ (after_magic.front ++ after_four.front);
      body = m.body;
      whole = m.whole.whole ∙ ap (λ r. m.whole.front ++ r) (after_magic.whole ∙ ap (λ r. after_magic.front ++ r) (after_four.whole ∙ ap (λ r. after_four.front ++ r) after_four.second) ∙ sym (append_assoc after_magic.front after_four.front m.body)) ∙ sym (append_assoc m.whole.front (after_magic.front ++ after_four.front) m.body);
      start = (
        m.capabilities,
        record {
          front = m.whole.front;
          rest = after_magic.front ++ after_four.front;
          whole = refl;
          first = m.whole.first;
          second =
              record { front = after_magic.front; rest = after_four.front; whole = refl; first = after_magic.first; second = after_four.first };
        },
      );
      value = m.value;
    }
