-- What a serializer sent, put by put.
use Rattle.std.proofs.Common.{◌≡◌, ℕ, List, [], ◌++◌, append_assoc, sym, ◌∙◌, ap, refl, subst}
use Rattle.std.proofs.lemmas.List.{append-nil}
use Rattle.bser_source.specs.Device.{one_more}
use Rattle.bser_format.specs.declared.errors.Error.{Error}
use Rattle.bser_format.specs.declared.errors.Error.TheVariants.{Io}
use Rattle.bser_ser.specs.Sent.{Sent, Refused, reason}
use Rattle.bser_ser.specs.Stopped.{Tells, Stopped, Accounts}
use Rattle.bser_ser.specs.declared.serializer.Serializer.{Serializer}

-- what a writer took in two calls is what it took in both
abbrev pub Joins : {S : Type 0} → Tells S → Type 0
Joins sink = (a b c : _) (xs ys : List ℕ) → sink.took a b xs → sink.took b c ys → sink.took a c (xs ++ ys)

-- one after the other
pub Sent-both : {S : Type 0} {sink : Tells S} → Joins sink
    → (a b c : Serializer S) (xs ys : List ℕ) → Sent sink a b xs → Sent sink b c ys → Sent sink a c (xs ++ ys)
Sent-both both a b c xs ys s t = record {
  taken = s.taken ++ t.taken;
  took_it = both a.writer b.writer c.writer s.taken t.taken s.took_it t.took_it;
  grew = sym (append_assoc a.pending.items xs ys) ∙ (ap (λ zs. zs ++ ys) s.grew ∙ (append_assoc s.taken b.pending.items ys ∙ (ap (λ zs. s.taken ++ zs) t.grew ∙ sym (append_assoc s.taken t.taken c.pending.items))));
  kept = t.kept ∙ s.kept;
  reason_kept = t.reason_kept ∙ s.reason_kept;
}

pub Sent-none : {S : Type 0} {sink : Tells S} → ((s : S) → sink.took s s []) → (a : Serializer S) → Sent sink a a []
Sent-none none a = record { taken = []; took_it = none a.writer; grew = append-nil a.pending.items; kept = refl; reason_kept = refl }

-- after what put nothing, more is pending
pub Sent-more : {S : Type 0} {sink : Tells S} (a b c : Serializer S) (xs : List ℕ) → Sent sink a b [] → c.writer ≡ b.writer → c.fault ≡ b.fault → c.pending.items ≡ b.pending.items ++ xs → Sent sink a c xs
Sent-more {sink = sink} a b c xs s same kept more = record {
  taken = s.taken;
  took_it = subst (λ w. sink.took a.writer w s.taken) (sym same) s.took_it;
  grew = ap (λ zs. zs ++ xs) (sym (append-nil a.pending.items) ∙ s.grew) ∙ (append_assoc s.taken b.pending.items xs ∙ ap (λ zs. s.taken ++ zs) (sym more));
  kept = ap sink.failures same ∙ s.kept;
  reason_kept = ap reason kept ∙ s.reason_kept;
}

-- a call of the writer that took nothing
pub Sent-told : {S : Type 0} {sink : Tells S} (a : Serializer S) (writer : S) → sink.took a.writer writer [] → sink.failures writer ≡ sink.failures a.writer → Sent sink a (record a { writer = writer }) []
Sent-told a writer took kept = record { taken = []; took_it = took; grew = append-nil a.pending.items; kept = kept; reason_kept = refl }

module _ {S : Type 0} (sink : Tells S) (both : Joins sink) where
  stopped_after : (a b c : S) (xs bytes : List ℕ) (e : _) → sink.took a b xs → Stopped sink b c bytes e → Stopped sink a c (xs ++ bytes) e
  stopped_after a b c xs bytes e p t = record {
    before = t.before;
    front = xs ++ t.front;
    rest = t.rest;
    whole = ap (λ zs. xs ++ zs) t.whole ∙ sym (append_assoc xs t.front t.rest);
    took_front = both a b t.before xs t.front p t.took_front;
    answer = t.answer;
    asked = t.asked;
    why = t.why;
  }

  accounts_after : (a b c : S) (xs bytes : List ℕ) (e : Error) → sink.took a b xs → sink.failures b ≡ sink.failures a → Accounts sink b c bytes e → Accounts sink a c (xs ++ bytes) e
  accounts_after a b c xs bytes (Io e) p k x = (x.0 ∙ ap one_more k, stopped_after a b c xs bytes e p x.1)
  accounts_after a b c xs bytes _ p k x = x ∙ k

  -- a refusal after what was put
  pub Refused-after : (a b c : Serializer S) (xs ys : List ℕ) (e : Error) → Sent sink a b xs → Refused sink b c ys e → Refused sink a c (xs ++ ys) e
  Refused-after a b c xs ys e s t =
      let bytes : s.taken ++ (b.pending.items ++ ys) ≡ a.pending.items ++ (xs ++ ys) = sym (append_assoc s.taken b.pending.items ys) ∙ (ap (λ zs. zs ++ ys) (sym s.grew) ∙ append_assoc a.pending.items xs ys) in
      record {
        taken = s.taken ++ t.taken;
        took_it = both a.writer b.writer c.writer s.taken t.taken s.took_it t.took_it;
        grew = sym bytes ∙ (ap (λ zs. s.taken ++ zs) t.grew ∙ sym (append_assoc s.taken t.taken c.pending.items));
        why = subst (λ zs. Accounts sink a.writer c.writer zs e) bytes (accounts_after a.writer b.writer c.writer s.taken (b.pending.items ++ ys) e s.took_it s.kept t.why);
      }
