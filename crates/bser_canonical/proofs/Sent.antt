-- A message that is made in memory, and then sent.
use Rattle.std.proofs.Common.{◌≡◌, ◌-◌, ℕ, ℤ, pos, List, [], ◌++◌, length, take, drop, Result, Ok, Err, sym, ap, subst, ◌∙◌, inr, append-nil}
use Rattle.std.specs.Result.{result_unwrap_or}
use Rattle.std.specs.declared.io.Error as io
use Rattle.bser_format.specs.Tree.{Tree}
use Rattle.bser_format.specs.Canonical.{canonical_body}
use Rattle.bser_format.specs.declared.errors.Error.{Error}
use Rattle.bser_format.specs.declared.errors.Error.TheVariants.{Io}
use Rattle.bser_ser.specs.Ends.{CanBeWritten, text_of}
use Rattle.bser_ser.specs.Message.{front_of, message_of, Wrote, Missed}
use Rattle.bser_ser.specs.Stopped.{Tells, Takes, TookFront, Accounts}
use Rattle.bser_ser.proofs.Gap.{turned}
use Rattle.bser_ser.proofs.Messages.{same_message}
use Rattle.bser_canonical.specs.Buffered.{HasShortBody}

-- the header moves before the body
pub made : (m : Result Tree Error) (body header all bytes : List ℕ) (len : ℤ) (n k : ℕ) → text_of m ≡ Ok body → len ≡ pos (length body) → header ≡ front_of len → all ≡ body ++ header → k ≡ length header → n ≡ length all
    → bytes ≡ drop (n - k) all ++ take (n - k) all → message_of m ≡ Ok bytes
made (Err e) body header all bytes len n k is at head e1 e2 e3 e4 = absurd cc
made (Ok t) body header all bytes len n k is at head e1 e2 e3 e4 =
    let same : canonical_body t ≡ body = ap (λ r. result_unwrap_or r body) is in
    let whole : bytes ≡ header ++ body = e4 ∙ turned body header all n k e1 e2 e3 in
    ap Ok (ap (λ b. front_of (pos (length b)) ++ b) same ∙ ap (λ l. front_of l ++ body) (sym at) ∙ ap (λ h. h ++ body) (sym head) ∙ sym whole)

-- all of a message was taken
pub wrote : {S : Type 0} (sink : Tells S) (m : Result Tree Error) (bytes : List ℕ) (old new : S) → message_of m ≡ Ok bytes → CanBeWritten m → HasShortBody m → Takes sink old new bytes → Wrote sink m old new
wrote sink (Err e) bytes old new is writable short took = absurd cc
wrote sink (Ok t) bytes old new is writable short took = (subst (Takes sink old new) (sym (same_message t bytes is)) took, short, writable)

-- a beginning of it was taken
pub missed : {S : Type 0} (sink : Tells S) (m : Result Tree Error) (bytes : List ℕ) (old new : S) (e : io.Error) → message_of m ≡ Ok bytes → TookFront sink old new bytes → Accounts sink old new bytes (Io e) → Missed sink m old new (Io e)
missed sink (Err d) bytes old new e is h why = absurd cc
missed sink (Ok t) bytes old new e is h why = inr (record {
  front = h.1.0;
  pending = h.0;
  rest = [];
  is = same_message t bytes is ∙ (h.1.2 ∙ ap (λ l. h.1.0 ++ l) (sym (append-nil h.0)));
  took_it = h.1.1;
  why = subst (λ l. Accounts sink old new l (Io e)) h.1.2 why;
  excuse = tt;
})
