-- What reading a message from a reader took.
use Rattle.std.proofs.Common.{◌≡◌, ◌≤◌, ℕ, List, [], ◌∷◌, ◌++◌, Option, length, refl, sym, ap, subst, ◌∙◌, arith}
use Rattle.std.proofs.lemmas.List.{append-nil}
use Rattle.std.specs.Borrow.{GName}
use Rattle.std.specs.Io.KnownBytes.{Consumes}
use Rattle.bser_format.specs.Content.{Content, Meaning}
use Rattle.bser_source.specs.Window.{Window}
use Rattle.bser_messages.specs.Messages.{ReadsMessage, TookMessage}
use Rattle.bser_messages.proofs.Sources.{reader_fresh}

none_of : (xs : List ℕ) → length xs ≤ 0 → xs ≡ []
none_of [] h = refl
none_of (x ∷ xs) h = absurd (omega (arith, h))

-- a reader that was not read before gave the message's bytes and no more
fresh_took : {A : Type 0} (n : ℕ) (reads : Meaning) (holds : A → Content → Type 0) (v : A) (remaining : Option (List ℕ)) (failures : ℕ) (through : Option GName) (t : Window)
    → ReadsMessage n reads holds (reader_fresh remaining failures through) t v → TookMessage n reads holds remaining t.beyond v
fresh_took n reads holds v remaining failures through t u =
    let held : length t.buffered ≤ 0 = omega (arith, u.took.within 0 (omega arith)) in
    let all : u.took.more ≡ u.text = u.took.bytes ∙ ap (λ (l : List ℕ). u.text ++ l) (none_of t.buffered held) ∙ append-nil u.text in
    record {
      text = u.text;
      bytes = subst (λ (b : List ℕ). Consumes remaining t.beyond b) all u.took.device;
      content = u.content;
      message = u.message;
      held = u.held;
    }

-- the same of a reader by what was left of it
pub reader_took : {A : Type 0} (n : ℕ) (reads : Meaning) (holds : A → Content → Type 0) (v : A) (old new : Option (List ℕ)) (a t : Window)
    → a ≡ reader_fresh a.beyond a.failures a.through → a.beyond ≡ old → t.beyond ≡ new → ReadsMessage n reads holds a t v → TookMessage n reads holds old new v
reader_took n reads holds v old new a t fresh p q u =
    rw (sym p, sym q) (fresh_took n reads holds v a.beyond a.failures a.through t (subst (λ (w : Window). ReadsMessage n reads holds w t v) fresh u))
