-- The reader whose objects' keys are UTF-8, with the grammar.
use Rattle.std.proofs.Common.{◌≡◌, ◌↔◌, ℕ, ◌-◌, List, ◌++◌, length, sym, subst, ◌∙◌}
use Rattle.bser_format.specs.Tree.{Tree}
use Rattle.bser_format.specs.Grammar.{Format, Spells}
use Rattle.bser_format.specs.Message.{IsMessage}
use Rattle.bser_format.specs.declared.errors.Error.{Error}
use Rattle.bser_format.proofs.Sound.{IsBytes}
use Rattle.bser_format.specs.Named.{reads, refuses, Reader, ◌>>=◌, head, ends_at, message, any, with_text_keys}
use Rattle.bser_format.specs.NamedLaws.{HasTextKeys}
use Rattle.bser_format.proofs.Exact.{reads_spelled, refused, no_answer}
use Rattle.bser_format.proofs.Messages.{reads_messages, ends_reads}
use Rattle.bser_format.proofs.Sifting.{Sifts, Anything, always, same_sifts, bind_sifts, after_sifts}
use Rattle.bser_format.proofs.TextKeys.{text_keys_sift}

-- a front of the form F x, where P holds of x
abbrev Front : {X : Type 0} → (X → Format) → (X → Type 0) → List ℕ → List ℕ → X → Type 0
Front F P b y x = (a : List ℕ) × (b ≡ a ++ y) × F x a × P x

sifted_exact : {X : Type 0} (P : X → Type 0) (F : X → Format) (r s : Reader X) → Sifts P r s → (b y : List ℕ) (x : X)
    → (r b ≡ reads x y) ↔ ((a : List ℕ) × (b ≡ a ++ y) × F x a) → (s b ≡ reads x y) ↔ Front F P b y x
sifted_exact P F r s sift b y x exact = (
  λ e. let p = (sift b).passed x y e in let h = exact.0 p.0 in (h.0, h.1, h.2, p.1),
  λ h. (sift b).kept x y (exact.1 (h.0, h.1, h.2)) h.3,
)

refused_exact : {X : Type 0} (P : X → Type 0) (F : X → Format) (s : Reader X) (b : List ℕ) → ((y : List ℕ) (x : X) → (s b ≡ reads x y) ↔ Front F P b y x)
    → ((e : Error) × (s b ≡ refuses e)) ↔ ((a y : List ℕ) (x : X) → b ≡ a ++ y → F x a → P x → ⊥)
refused_exact P F s b exact = (
  λ h a y x whole form p. no_answer h.0 x y (sym ((exact y x).1 (a, whole, form, p)) ∙ h.1),
  λ none. refused (s b) (λ x y e. let h = (exact y x).0 e in none h.0 y x h.1 h.2 h.3),
)

-- ---- values

pub reads_text_keys : (n : ℕ) (b y : List ℕ) (t : Tree) → IsBytes b → (with_text_keys n b ≡ reads t y) ↔ ((a : List ℕ) × (b ≡ a ++ y) × Spells n t a × HasTextKeys t)
reads_text_keys n b y t all = sifted_exact HasTextKeys (Spells n) (any n) (with_text_keys n) (text_keys_sift n) b y t (reads_spelled n b y t all)

pub refuses_other_keys : (n : ℕ) (b : List ℕ) → IsBytes b → ((e : Error) × (with_text_keys n b ≡ refuses e)) ↔ ((a y : List ℕ) (t : Tree) → b ≡ a ++ y → Spells n t a → HasTextKeys t → ⊥)
refuses_other_keys n b all = refused_exact HasTextKeys (Spells n) (with_text_keys n) b (λ y t. reads_text_keys n b y t all)

-- ---- messages

-- what a message's value meets
abbrev Inside : (Tree → Type 0) → ℕ × Tree → Type 0
Inside P m = P m.1

-- the end of a message hands its value on
end_sifts : (P : Tree → Type 0) (b c : List ℕ) (k n : ℕ) (t : Tree) → P t → Sifts (Inside P) (ends_at {X = ℕ × Tree} b c k (n, t)) (ends_at {X = ℕ × Tree} b c k (n, t))
end_sifts P b c k n t p = same_sifts (Inside P) (ends_at b c k (n, t)) (λ d y m e. subst (Inside P) (ends_reads (length b - length c) k (length b - length d) (n, t) m d y e).2 p)

message_sifts : (P : Tree → Type 0) (r s : Reader Tree) → Sifts P r s → Sifts (Inside P) (message r) (message s)
message_sifts P r s one b =
    after_sifts Anything (Inside P) head (λ h c. (r >>= λ t. ends_at b c h.1 (h.0, t)) c) (λ h c. (s >>= λ t. ends_at b c h.1 (h.0, t)) c) (always head)
    (λ h u c. bind_sifts Anything P (Inside P) r s (λ t. ends_at b c h.1 (h.0, t)) (λ t. ends_at b c h.1 (h.0, t)) (always r) one
    (λ t g p. end_sifts P b c h.1 h.0 t p)
    (λ t d y m g e p. subst (Inside P) (sym (ends_reads (length b - length c) h.1 (length b - length d) (h.0, t) m d y e).2) p) c) b

-- a message of these capabilities and this tree
abbrev IsMessageOf : ℕ → ℕ × Tree → Format
IsMessageOf n m = IsMessage n m.0 m.1

pub reads_text_key_messages : (n c : ℕ) (b y : List ℕ) (t : Tree) → IsBytes b → (message (with_text_keys n) b ≡ reads (c, t) y) ↔ ((a : List ℕ) × (b ≡ a ++ y) × IsMessage n c t a × HasTextKeys t)
reads_text_key_messages n c b y t all =
    sifted_exact (Inside HasTextKeys) (IsMessageOf n) (message (any n)) (message (with_text_keys n)) (message_sifts HasTextKeys (any n) (with_text_keys n) (text_keys_sift n)) b y (c, t) (reads_messages n c b y t all)

pub refuses_other_messages : (n : ℕ) (b : List ℕ) → IsBytes b → ((e : Error) × (message (with_text_keys n) b ≡ refuses e)) ↔ ((a y : List ℕ) (c : ℕ) (t : Tree) → b ≡ a ++ y → IsMessage n c t a → HasTextKeys t → ⊥)
refuses_other_messages n b all =
    let h : ((e : Error) × (message (with_text_keys n) b ≡ refuses e)) ↔ ((a y : List ℕ) (m : ℕ × Tree) → b ≡ a ++ y → IsMessageOf n m a → Inside HasTextKeys m → ⊥) =
    refused_exact (Inside HasTextKeys) (IsMessageOf n) (message (with_text_keys n)) b (λ y m. reads_text_key_messages n m.0 b y m.1 all) in
    (λ e a y c t. h.0 e a y (c, t), λ none. h.1 (λ a y m. none a y m.0 m.1))
