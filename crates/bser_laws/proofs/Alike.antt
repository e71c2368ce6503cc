-- A slice and a reader of the same bytes are read alike.
use Rattle.std.proofs.Common.{◌≡◌, ◌⊎◌, inl, inr, ℕ, List, ◌++◌, Option, Some, None, Result, Ok, Err, refl, sym, ap, subst, ◌∙◌}
use Rattle.std.specs.Prelude.{IsOk, IfOk, IfErr}
use Rattle.std.specs.Io.KnownBytes.{Consumes}
use Rattle.std.proofs.lemmas.Option.{same_Some}
use Rattle.bser_format.specs.Tree.{Tree}
use Rattle.bser_format.specs.Content.{Content, Meaning}
use Rattle.bser_format.specs.Expand.{expand}
use Rattle.bser_format.specs.Expected.{node_due}
use Rattle.bser_format.specs.declared.errors.Error.{Error}
use Rattle.bser_format.specs.declared.errors.Error.TheVariants.{OutOfMemory}
use Rattle.bser_format.proofs.GrammarLaws.{one_message}
use Rattle.bser_format.specs.Named as named
use Rattle.serde_bser.specs.Messages.{ReadsMessageAs, BeginsWith, TookMessage, RefusesSlice, RefusesReader, NamesSlice, NamesReader, IsMemory, IsReaderFault, IsOutside}
use Rattle.serde_bser.specs.Reading.{Asking, Needs}
use Rattle.bser_laws.specs.Agreement.{ReadAlike, SameName}

-- what known bytes have left is known
pub record KnownRest (bytes text : List ℕ) (left : Option (List ℕ)) : Type 0 where
  pub rest : List ℕ
  pub is : left ≡ Some rest
  pub front : bytes ≡ text ++ rest

pub known_rest : (bytes text : List ℕ) (old left : Option (List ℕ)) → old ≡ Some bytes → Consumes old left text → KnownRest bytes text left
known_rest bytes text old left same took = go left (subst (λ o. Consumes o left text) same took)
  where
    go : (l : Option (List ℕ)) → Consumes (Some bytes) l text → KnownRest bytes text l
    go None h = absurd h
    go (Some rest) h = record { rest = rest; is = refl; front = h }

-- two messages in front of the same bytes read as one content
pub one_content : (n : ℕ) (reads : Meaning) (a b x y : List ℕ) (c d : Content) → ReadsMessageAs n reads a c → ReadsMessageAs n reads b d → a ++ x ≡ b ++ y → c ≡ d
one_content n reads a b x y c d p q e =
    let same = one_message n p.capabilities q.capabilities a b x y p.tree q.tree p.message q.message e in
    same_Some c d (sym p.read ∙ ap (λ t. reads (expand t)) same.2 ∙ q.read)

pub both_read : {A : Type 0} (n : ℕ) (reads : Meaning) (holds : A → Content → Type 0) (bytes : List ℕ) (old left : Option (List ℕ)) (r q : Result A Error) → old ≡ Some bytes
    → IfOk r (BeginsWith n reads holds bytes) → IfOk q (TookMessage n reads holds old left) → IfOk r (λ v. IfOk q (ReadAlike n reads holds bytes left v))
both_read n reads holds bytes old left (Err e) q same h k = tt
both_read n reads holds bytes old left (Ok v) (Err f) same h k = tt
both_read n reads holds bytes old left (Ok v) (Ok w) same h k =
    let known = known_rest bytes k.text old left same k.bytes in
    let content = one_content n reads h.text k.text h.rest known.rest h.content k.content h.message k.message (sym h.front ∙ known.front) in
    record {
      text = k.text;
      rest = known.rest;
      front = known.front;
      content = k.content;
      message = k.message;
      first = subst (holds v) content h.held;
      second = k.held;
      behind = known.is;
    }

pub slice_alone : {A : Type 0} (n : ℕ) (reads : Meaning) (holds : A → Content → Type 0) (asks : Option (Asking reads)) (bytes : List ℕ) (old : Option (List ℕ)) (before after : ℕ) (r q : Result A Error) → old ≡ Some bytes
    → IfOk r (BeginsWith n reads holds bytes) → IfErr q (λ e. RefusesReader n reads asks e old before after) → IsOk r → IfErr q (IsReaderFault before after)
slice_alone n reads holds asks bytes old before after (Err e) q same h k ok = absurd cc
slice_alone n reads holds asks bytes old before after (Ok v) (Ok w) same h k ok = tt
slice_alone n reads holds asks bytes old before after (Ok v) (Err f) same h k ok = k.excuse h.text h.rest h.content h.message (same ∙ ap Some h.front)

pub reader_alone : {A : Type 0} (n : ℕ) (reads : Meaning) (holds : A → Content → Type 0) (asks : Option (Asking reads)) (needs : Needs) (bytes : List ℕ) (old left : Option (List ℕ)) (r q : Result A Error) → old ≡ Some bytes
    → IfErr r (λ e. RefusesSlice n reads asks needs e bytes) → IfOk q (TookMessage n reads holds old left) → IsOk q → IfErr r (IsMemory needs)
reader_alone n reads holds asks needs bytes old left (Ok v) q same h k ok = tt
reader_alone n reads holds asks needs bytes old left (Err e) (Err f) same h k ok = absurd cc
reader_alone n reads holds asks needs bytes old left (Err e) (Ok w) same h k ok =
    let known = known_rest bytes k.text old left same k.bytes in
    h.excuse k.text known.rest k.content k.message known.front

-- a reader refuses some bytes by one error
same_refusal : {X : Type 0} (e f : Error) (a : named.Answer X) → a ≡ named.refuses e → a ≡ named.refuses f → e ≡ f
same_refusal {X} e f a p q = sym (ap (λ b. said b) p) ∙ ap (λ b. said b) q
  where
    said : named.Answer X → Error
    said (named.refuses g) = g
    said (named.reads x b) = e

one_name : {R : Meaning} (n : ℕ) (asks : Option (Asking R)) (bytes : List ℕ) (old : Option (List ℕ)) (before after : ℕ) (e f : Error) → old ≡ Some bytes
    → NamesSlice n asks e bytes → NamesReader n asks f old before after → SameName n asks bytes before after e f
one_name n None bytes old before after e f same h k = tt
one_name n (Some a) bytes old before after e f same (inr memory) k = inr (inl memory)
one_name n (Some a) bytes old before after e f same (inl named_so) (inl (b, comes, bad)) =
    let reader = named.message (a.asks 0 n node_due) in
    inl (same_refusal e f (reader bytes) named_so (ap reader (sym (comes bytes same)) ∙ bad))
one_name n (Some a) bytes old before after e f same (inl named_so) (inr outside) =
    inr (inr (subst (λ o. IsOutside (named.message (a.asks 0 n node_due)) o before after f) same outside))

pub neither : {A : Type 0} (n : ℕ) (reads : Meaning) (asks : Option (Asking reads)) (needs : Needs) (bytes : List ℕ) (old : Option (List ℕ)) (before after : ℕ) (r q : Result A Error) → old ≡ Some bytes
    → IfErr r (λ e. RefusesSlice n reads asks needs e bytes) → IfErr q (λ f. RefusesReader n reads asks f old before after) → IfErr r (λ e. IfErr q (SameName n asks bytes before after e))
neither n reads asks needs bytes old before after (Ok v) q same h k = tt
neither n reads asks needs bytes old before after (Err e) (Ok w) same h k = tt
neither n reads asks needs bytes old before after (Err e) (Err f) same h k = one_name n asks bytes old before after e f same h.names k.names
