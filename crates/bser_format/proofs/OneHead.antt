-- A byte list has at most one front that is the head of a message.
use Rattle.std.proofs.Common.{◌≡◌, ℕ, List, ◌++◌, sym, ap, subst, ◌∙◌}
use Rattle.std.proofs.lemmas.List.{append_cancel_right}
use Rattle.bser_format.specs.Message.{Head}
use Rattle.bser_format.specs.Named.{head}
use Rattle.bser_format.proofs.Sifting.{same_answer}
use Rattle.bser_format.proofs.Messages.{head_reads}

pub one_head : (c d j k : ℕ) (a b x y : List ℕ) → Head c j a → Head d k b → a ++ x ≡ b ++ y → (a ≡ b) × (c ≡ d) × (j ≡ k)
one_head c d j k a b x y p q e =
    let same = same_answer (c, j) (d, k) x y (sym (head_reads c j a x p) ∙ ap head e ∙ head_reads d k b y q) in
    (append_cancel_right a b y (subst (λ r. a ++ r ≡ b ++ y) same.1 e), ap (λ v. v.0) same.0, ap (λ v. v.1) same.0)
