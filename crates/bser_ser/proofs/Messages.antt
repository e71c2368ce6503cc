-- A message and the serializer that sent it.
use Rattle.std.proofs.Common.{◌≡◌, ℕ, ℤ, pos, List, ◌++◌, length, append_assoc, sym, ap, ◌∙◌, subst, refl, inr, [], Result, Ok, Err, IfErr}
use Rattle.std.proofs.lemmas.Result.{MatchResult-weaker}
use Rattle.std.specs.Result.{result_unwrap_or}
use Rattle.bser_format.specs.Tree.{Tree}
use Rattle.bser_format.specs.Canonical.{canonical_body, canonical_message}
use Rattle.bser_format.specs.declared.errors.Error.{Error}
use Rattle.bser_format.specs.declared.errors.Error.TheVariants.{Io}
use Rattle.bser_ser.specs.Sent.{Sent, writer_of, pending_of}
use Rattle.bser_ser.specs.Ends.{Ends, Stops, text_of}
use Rattle.bser_ser.specs.Stopped.{Tells, Stopped, Accounts}
use Rattle.bser_ser.specs.Message.{front_of, message_of, IsBodyLength, SendsMessage, Partly, Broke, Missed}
use Rattle.bser_ser.specs.declared.serializer.Serializer.{Serializer}
use Rattle.bser_ser.proofs.Sends.{Joins}
use Rattle.bser_ser.proofs.Ends.{Ends-both, Stops-second}

module _ {S : Type 0} (sink : Tells S) (both : Joins sink) where
  pub Ends-message : (m : Result Tree Error) (len : ℤ) (a b c : Serializer S) → IsBodyLength m len → Sent sink a b (front_of len) → Ends sink (text_of m) b c → Ends sink (message_of m) a c
  Ends-message (Err d) len a b c is s t = t
  Ends-message (Ok u) len a b c is s t = Ends-both sink both (Ok (front_of (pos (length (canonical_body u))))) (Ok (canonical_body u)) a b c (rw (← is.0) s) t

module _ {S : Type 0} (sink : Tells S) (both : Joins sink) where
  pub Stops-message : (m : Result Tree Error) (len : ℤ) (a b c : Serializer S) (e : Error) → IsBodyLength m len → Sent sink a b (front_of len) → Stops sink (text_of m) b c e → Stops sink (message_of m) a c e
  Stops-message (Err d) len a b c e is s t = absurd is
  Stops-message (Ok u) len a b c e is s t = Stops-second sink both (Ok (front_of (pos (length (canonical_body u))))) (Ok (canonical_body u)) a b c e (rw (← is.0) s) t

-- a tree's message is one
pub same_message : (t : Tree) (m : List ℕ) → message_of (Ok t) ≡ Ok m → canonical_message t ≡ m
same_message t m e = ap (λ r. result_unwrap_or r m) e

-- a writer that took nothing before
module _ {S : Type 0} (sink : Tells S) where
  pub Broke-new : (m : Result Tree Error) (len : ℤ) (old new : Serializer S) (before after : S) (e : Error) → IsBodyLength m len → writer_of old ≡ before → pending_of old ≡ [] → after ≡ writer_of new
      → Stops sink (message_of m) old new e → Broke sink m before after e
  Broke-new (Err d) len old new before after e is begun none same s = absurd is
  Broke-new (Ok t) len old new before after e is begun none same s =
      let put : s.front ≡ s.refused.taken ++ new.pending.items = ap (λ zs. zs ++ s.front) (sym none) ∙ s.refused.grew in
      let broke : Partly sink (canonical_message t) old.writer new.writer e = record {
        front = s.refused.taken;
        pending = new.pending.items;
        rest = s.rest;
        is = s.is ∙ (ap (λ zs. zs ++ s.rest) put ∙ append_assoc s.refused.taken new.pending.items s.rest);
        took_it = s.refused.took_it;
        why = subst (λ zs. Accounts sink old.writer new.writer zs e) s.refused.grew s.refused.why;
        excuse = s.excuse;
      } in
      subst (λ w. Partly sink (canonical_message t) w after e) begun (subst (λ w. Partly sink (canonical_message t) old.writer w e) (sym same) broke)

-- what a writer that is lent tells of the one that it was lent from
module _ {R S : Type 0} (now : R → S) (Keeps : R → R → Type 0) (sink : Tells S) where
  -- what the writer that is lent tells
  abbrev lent : Tells R
  lent = record { took = λ x y zs. Keeps x y × sink.took (now x) (now y) zs; answered = λ x y zs r. sink.answered (now x) (now y) zs r; failures = λ x. sink.failures (now x) }

  stopped_lent : (a b : R) (bytes : List ℕ) (e : _) → Stopped lent a b bytes e → Stopped sink (now a) (now b) bytes e
  stopped_lent a b bytes e s = record {
    before = now s.before;
    front = s.front;
    rest = s.rest;
    whole = s.whole;
    took_front = s.took_front.1;
    answer = s.answer;
    asked = s.asked;
    why = s.why;
  }

  accounts_lent : (a b : R) (bytes : List ℕ) (e : Error) → Accounts lent a b bytes e → Accounts sink (now a) (now b) bytes e
  accounts_lent a b bytes (Io e) x = (x.0, stopped_lent a b bytes e x.1)
  accounts_lent a b bytes _ x = x

  pub Broke-lent : (m : Result Tree Error) (a b : R) (e : Error) → Broke lent m a b e → Broke sink m (now a) (now b) e
  Broke-lent (Err d) a b e s = s
  Broke-lent (Ok t) a b e s = record {
    front = s.front;
    pending = s.pending;
    rest = s.rest;
    is = s.is;
    took_it = s.took_it.1;
    why = accounts_lent a b (s.front ++ s.pending) e s.why;
    excuse = s.excuse;
  }

  pub Missed-lent : {A : Type 0} (m : Result Tree Error) (len : ℤ) (old new : Serializer R) (before after : S) (r : Result A Error) → IsBodyLength m len → pending_of old ≡ [] → before ≡ now (writer_of old) → after ≡ now (writer_of new)
      → SendsMessage lent m old new r → IfErr r (Missed sink m before after)
  Missed-lent m len old new before after r is none b a h =
      MatchResult-weaker r h (λ _ _. tt) (λ e s. inr (rw (b, a) (Broke-lent m old.writer new.writer e
      (Broke-new lent m len old new old.writer new.writer e is refl none refl s))))
