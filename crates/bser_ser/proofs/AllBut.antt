-- A text that was put but for a rest of it.
use Rattle.std.proofs.Common.{◌≡◌, ℕ, List, [], ◌++◌, Ok, sym, ap, subst, ◌∙◌, append_assoc, append-nil}
use Rattle.bser_format.specs.declared.errors.Error.{Error}
use Rattle.bser_ser.specs.Sent.{Sent}
use Rattle.bser_ser.specs.Ends.{Stops}
use Rattle.bser_ser.specs.Stopped.{Tells}
use Rattle.bser_ser.specs.declared.serializer.Serializer.{Serializer}
use Rattle.bser_ser.proofs.Sends.{Joins, Sent-both}
use Rattle.bser_ser.proofs.Ends.{Stops-first, Stops-second}

pub record AllBut {S : Type 0} (sink : Tells S) (whole rest : List ℕ) (old new : Serializer S) : Type 0 where
  pub front : List ℕ
  pub is : whole ≡ front ++ rest
  pub sent : Sent sink old new front

module _ {S : Type 0} (sink : Tells S) where
  pub AllBut-start : (whole piece rest : List ℕ) (a b : Serializer S) → whole ≡ piece ++ rest → Sent sink a b piece → AllBut sink whole rest a b
  AllBut-start whole piece rest a b e s = record { front = piece; is = e; sent = s }

  pub AllBut-all : (whole rest : List ℕ) (a b : Serializer S) → AllBut sink whole rest a b → rest ≡ [] → Sent sink a b whole
  AllBut-all whole rest a b h none = subst (Sent sink a b) (sym (h.is ∙ ap (λ l. h.front ++ l) none ∙ append-nil h.front)) h.sent

module _ {S : Type 0} (sink : Tells S) (both : Joins sink) where
  -- the next piece of the rest was put
  pub AllBut-more : (whole rest piece left : List ℕ) (a b c : Serializer S) → AllBut sink whole rest a b → rest ≡ piece ++ left → Sent sink b c piece → AllBut sink whole left a c
  AllBut-more whole rest piece left a b c h step s = record {
    front = h.front ++ piece;
    is = h.is ∙ ap (λ l. h.front ++ l) step ∙ sym (append_assoc h.front piece left);
    sent = Sent-both both a b c h.front piece h.sent s;
  }

module _ {S : Type 0} (sink : Tells S) (both : Joins sink) where
  -- the next piece of the rest was refused
  pub AllBut-stops : (whole rest piece left : List ℕ) (a b c : Serializer S) (e : Error) → AllBut sink whole rest a b → rest ≡ piece ++ left → Stops sink (Ok piece) b c e → Stops sink (Ok whole) a c e
  AllBut-stops whole rest piece left a b c e h step s =
      subst (λ l. Stops sink (Ok l) a c e) (append_assoc h.front piece left ∙ ap (λ l. h.front ++ l) (sym step) ∙ sym h.is)
      (Stops-first sink (Ok (h.front ++ piece)) (Ok left) a c e (Stops-second sink both (Ok h.front) (Ok piece) a b c e h.sent s))
