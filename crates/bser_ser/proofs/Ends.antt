-- What was written, part by part.
use Rattle.std.proofs.Common.{◌≡◌, ℕ, List, [], ◌∷◌, ◌++◌, append_assoc, append-nil, sym, ◌∙◌, ap, refl, subst}
use Rattle.std.proofs.Common.{Result, Ok, Err, inr}
use Rattle.std.proofs.lemmas.Result.{MatchResult-weaker}
use Rattle.bser_ser.specs.Sent.{Sent, Refused, IsExcuse, Adds, refusal_of}
use Rattle.bser_ser.specs.Stopped.{Tells}
use Rattle.bser_ser.specs.declared.serializer.Serializer.{Serializer}
use Rattle.bser_format.specs.declared.errors.Error.{Error}
use Rattle.bser_ser.proofs.Sends.{Joins, Sent-both, Refused-after}
use Rattle.bser_ser.specs.Ends.{Ends, Stops, then}

abbrev pub joined : {A : Type 0} → (A → Result (List ℕ) Error) → List A → Result (List ℕ) Error
joined g [] = Ok []
joined g (x ∷ xs) = then (g x) (joined g xs)

pub then-assoc : (a b c : Result (List ℕ) Error) → then (then a b) c ≡ then a (then b c)
then-assoc (Err d) b c = refl
then-assoc (Ok xs) (Err d) c = refl
then-assoc (Ok xs) (Ok ys) (Err d) = refl
then-assoc (Ok xs) (Ok ys) (Ok zs) = ap Ok (append_assoc xs ys zs)

pub then-nil : (m : Result (List ℕ) Error) → then m (Ok []) ≡ m
then-nil (Err d) = refl
then-nil (Ok xs) = ap Ok (append-nil xs)

pub nil-then : (m : Result (List ℕ) Error) → then (Ok []) m ≡ m
nil-then (Err d) = refl
nil-then (Ok xs) = refl

pub joined-append : {A : Type 0} (g : A → Result (List ℕ) Error) (xs ys : List A) → joined g (xs ++ ys) ≡ then (joined g xs) (joined g ys)
joined-append g [] ys = sym (nil-then (joined g ys))
joined-append g (x ∷ xs) ys = ap (then (g x)) (joined-append g xs ys) ∙ sym (then-assoc (g x) (joined g xs) (joined g ys))

-- a put after a call that put nothing
pub Adds-after : {S A E : Type 0} (sink : Tells S) → Joins sink → (a b c : Serializer S) (piece : List ℕ) (r : Result A E) → Sent sink a b [] → Adds sink b c piece r → Adds sink a c piece r
Adds-after sink both a b c piece r s x =
    MatchResult-weaker r x (λ _ t. (Sent-both both a b c [] piece s t.0, t.1))
    (λ _ t. (Refused-after sink both a b c [] [] (refusal_of c) s t.0, t.1))

module _ {S : Type 0} (sink : Tells S) where
  -- nothing was written
  pub Stops-none : (m : Result (List ℕ) Error) (a b : Serializer S) (e : Error) → Refused sink a b [] e → IsExcuse e → Stops sink m a b e
  Stops-none (Err d) a b e s x = record { front = []; refused = s; why = inr x }
  Stops-none (Ok bs) a b e s x = record { front = []; rest = bs; is = refl; refused = s; excuse = x }

  pub Stops-first : (m n : Result (List ℕ) Error) (a b : Serializer S) (e : Error) → Stops sink m a b e → Stops sink (then m n) a b e
  Stops-first (Err d) n a b e s = s
  Stops-first (Ok xs) (Err d) a b e s = record { front = s.front; refused = s.refused; why = inr s.excuse }
  Stops-first (Ok xs) (Ok ys) a b e s = record { front = s.front; rest = s.rest ++ ys; is = ap (λ zs. zs ++ ys) s.is ∙ append_assoc s.front s.rest ys; refused = s.refused; excuse = s.excuse }

module _ {S : Type 0} (sink : Tells S) (both : Joins sink) where
  pub Ends-both : (m n : Result (List ℕ) Error) (a b c : Serializer S) → Ends sink m a b → Ends sink n b c → Ends sink (then m n) a c
  Ends-both (Err d) n a b c s t = absurd s
  Ends-both (Ok xs) (Err d) a b c s t = absurd t
  Ends-both (Ok xs) (Ok ys) a b c s t = Sent-both both a b c xs ys s t

module _ {S : Type 0} (sink : Tells S) (both : Joins sink) where
  pub Stops-second : (m n : Result (List ℕ) Error) (a b c : Serializer S) (e : Error) → Ends sink m a b → Stops sink n b c e → Stops sink (then m n) a c e
  Stops-second (Err d) n a b c e s t = absurd s
  Stops-second (Ok xs) (Err d) a b c e s t = record { front = xs ++ t.front; refused = Refused-after sink both a b c xs t.front e s t.refused; why = t.why }
  Stops-second (Ok xs) (Ok ys) a b c e s t = record {
    front = xs ++ t.front;
    rest = t.rest;
    is = ap (λ zs. xs ++ zs) t.is ∙ sym (append_assoc xs t.front t.rest);
    refused = Refused-after sink both a b c xs t.front e s t.refused;
    excuse = t.excuse;
  }

-- of all, those before rest are written, after a head
pub record UpTo {S A : Type 0} (sink : Tells S) (h : List ℕ) (g : A → Result (List ℕ) Error) (all rest : List A) (old new : Serializer S) : Type 0 where
  pub done : List A
  pub split : all ≡ done ++ rest
  pub ended : Ends sink (then (Ok h) (joined g done)) old new

module _ {S A : Type 0} (sink : Tells S) (h : List ℕ) (g : A → Result (List ℕ) Error) where
  pub UpTo-start : (all rest : List A) (a b : Serializer S) → rest ≡ all → Sent sink a b h → UpTo sink h g all rest a b
  UpTo-start all rest a b is s = record { done = []; split = sym is; ended = rw append-nil s }

  pub UpTo-all : (all rest : List A) (a b : Serializer S) → UpTo sink h g all rest a b → rest ≡ [] → Ends sink (then (Ok h) (joined g all)) a b
  UpTo-all all rest a b u none = subst (λ (xs : List A). Ends sink (then (Ok h) (joined g xs)) a b) (sym (u.split ∙ ap (λ ys. u.done ++ ys) none ∙ append-nil u.done)) u.ended

module _ {S A : Type 0} (sink : Tells S) (both : Joins sink) (h : List ℕ) (g : A → Result (List ℕ) Error) where
  pub UpTo-more : (all rest left : List A) (x : A) (a b c : Serializer S) → UpTo sink h g all rest a b → rest ≡ x ∷ left → Ends sink (g x) b c → UpTo sink h g all left a c
  UpTo-more all rest left x a b c u step t = record {
    done = u.done ++ x ∷ [];
    split = u.split ∙ ap (λ ys. u.done ++ ys) step ∙ sym (append_assoc u.done (x ∷ []) left);
    ended = subst (λ (m : Result (List ℕ) Error). Ends sink m a c)
        (then-assoc (Ok h) (joined g u.done) (g x) ∙ ap (then (Ok h)) (ap (then (joined g u.done)) (sym (then-nil (g x))) ∙ sym (joined-append g u.done (x ∷ []))))
        (Ends-both sink both _ (g x) a b c u.ended t);
  }

module _ {S A : Type 0} (sink : Tells S) (both : Joins sink) (h : List ℕ) (g : A → Result (List ℕ) Error) where
  pub UpTo-stops : (all rest left : List A) (x : A) (a b c : Serializer S) (e : Error) → UpTo sink h g all rest a b → rest ≡ x ∷ left → Stops sink (g x) b c e → Stops sink (then (Ok h) (joined g all)) a c e
  UpTo-stops all rest left x a b c e u step t =
      let whole : joined g all ≡ then (joined g u.done) (then (g x) (joined g left)) = ap (joined g) (u.split ∙ ap (λ ys. u.done ++ ys) step) ∙ joined-append g u.done (x ∷ left) in
      subst (λ (m : Result (List ℕ) Error). Stops sink m a c e)
      (then-assoc (then (Ok h) (joined g u.done)) (g x) (joined g left) ∙ (then-assoc (Ok h) (joined g u.done) (then (g x) (joined g left)) ∙ ap (then (Ok h)) (sym whole)))
      (Stops-first sink _ (joined g left) a c e (Stops-second sink both _ (g x) a b c e u.ended t))

module _ {S : Type 0} (sink : Tells S) (both : Joins sink) (m : Result (List ℕ) Error) where
  -- nothing more was put
  pub Ends-flushed : (a b c : Serializer S) → Ends sink m a b → Sent sink b c [] → Ends sink m a c
  Ends-flushed a b c s t = subst (λ (n : Result (List ℕ) Error). Ends sink n a c) (then-nil m) (Ends-both sink both m (Ok []) a b c s t)

module _ {S : Type 0} (sink : Tells S) (both : Joins sink) (m : Result (List ℕ) Error) where
  pub Stops-flushed : (a b c : Serializer S) (e : Error) → Ends sink m a b → Refused sink b c [] e → IsExcuse e → Stops sink m a c e
  Stops-flushed a b c e s t x = subst (λ (n : Result (List ℕ) Error). Stops sink n a c e) (then-nil m)
      (Stops-second sink both m (Ok []) a b c e s (Stops-none sink (Ok []) b c e t x))

-- what the writer took of a text
module _ {S : Type 0} (sink : Tells S) where
  pub ended_tied : (m : Result (List ℕ) Error) (a b : Serializer S) → Ends sink m a b → (taken : List ℕ) × sink.took a.writer b.writer taken
  ended_tied (Err d) a b s = absurd s
  ended_tied (Ok bs) a b s = (s.taken, s.took_it)

module _ {S : Type 0} (sink : Tells S) where
  pub stopped_tied : (m : Result (List ℕ) Error) (a b : Serializer S) (e : Error) → Stops sink m a b e → (taken : List ℕ) × sink.took a.writer b.writer taken
  stopped_tied (Err d) a b e s = (s.refused.taken, s.refused.took_it)
  stopped_tied (Ok bs) a b e s = (s.refused.taken, s.refused.took_it)
