-- Messages that are read as one content.
use Rattle.std.proofs.Common.{◌≡◌, ℕ, Bool, true, false, List, [], ◌∷◌, Option, sym, ap, subst, ◌∙◌}
use Rattle.std.specs.Option.{is_some}
use Rattle.std.specs.Prelude.{None, Some, unwrap_or}
use Rattle.bser_format.proofs.GrammarLaws.{one_message}
use Rattle.bser_format.specs.Expand.{expand}
use Rattle.bser_format.specs.Content.{Content, Meaning, truth, byte_list, list, content, nothing}
use Rattle.bser_format.specs.ReadsHolders.{list_of}
use Rattle.bser_deserializer.specs.Holds.{HoldsOption}
use Rattle.bser_deserializer.specs.HoldsLists.{HoldsTuple, HoldsEach}
use Rattle.bser_deserializer.specs.declared.deserializer.TheConstants.{LEVELS}
use Rattle.bser_deserializer.specs.Reading.{Asking, Needs}
use Rattle.bser_format.specs.declared.errors.Error.{Error}
use Rattle.bser_format.specs.declared.errors.Error.TheVariants.{OutOfMemory}
use Rattle.bser_messages.specs.Messages.{BeginsWith, ReadsMessageAs, RefusesSlice}
use Rattle.watchman_client.specs.Kinds.{ReadsAs, reads_failure, reads_mark, reads_signs, IsKind, TellsNoError}
use Rattle.watchman_client.proofs.Signs.{signs}

-- a message reads as one content
pub one_content : (reads : Meaning) (bytes : List ℕ) (c d : Content) → ReadsAs reads c bytes → ReadsAs reads d bytes → c ≡ d
one_content reads bytes c d p q =
    let same = one_message LEVELS _ _ p.text q.text p.rest q.rest _ _ p.message.message q.message.message (sym p.front ∙ q.front) in
    ap (λ o. unwrap_or o c) (sym p.message.read ∙ ap (λ t. reads (expand t)) same.2 ∙ q.message.read)

-- what a struct of one field holds
pub one_field : (h : Content → Type 0) (c d : Content) → ((x : Content) → h x → x ≡ d) → HoldsTuple (h ∷ []) c → c ≡ list_of (d ∷ [])
one_field h c d holds t = go t.contents t.list t.held
  where
    go : (cs : List Content) → c ≡ list_of cs → HoldsEach (h ∷ []) cs → c ≡ list_of (d ∷ [])
    go [] e x = absurd x
    go (x ∷ []) e p = e ∙ ap (λ y. list_of (y ∷ [])) (holds x p.0)
    go (x ∷ y ∷ ys) e p = absurd p.1

-- what begins with a message that reads as this
pub begins_as : {A : Type 0} (reads : Meaning) (holds : A → Content → Type 0) (bytes : List ℕ) (v : A) (d : Content) → ((c : Content) → holds v c → c ≡ d) → BeginsWith LEVELS reads holds bytes v → ReadsAs reads d bytes
begins_as reads holds bytes v d one b = record {
  text = b.text;
  rest = b.rest;
  front = b.front;
  message = subst (λ c. ReadsMessageAs LEVELS reads b.text c) (one b.content b.held) b.message;
}

-- what is refused, and not for want of memory, does not read
pub not_read : (reads : Meaning) (asks : Option (Asking reads)) (needs : Needs) (bytes : List ℕ) (c : Content) (e : Error) → RefusesSlice LEVELS reads asks needs e bytes → (e ≡ OutOfMemory → ⊥) → ReadsAs reads c bytes → ⊥
not_read reads asks needs bytes c e r other u = other ((r.excuse u.text u.rest c u.message u.front).memory)

-- ---- the two structs

pub mark_content : (v : Bool) (c : Content) → HoldsTuple ((λ x. x ≡ truth v) ∷ []) c → c ≡ list_of (truth v ∷ [])
mark_content v c h = one_field (λ x. x ≡ truth v) c (truth v) (λ x e. e) h

pub failure_content : (s : List ℕ) (c : Content) → HoldsTuple ((λ x. x ≡ byte_list s) ∷ []) c → c ≡ list_of (byte_list s ∷ [])
failure_content s c h = one_field (λ x. x ≡ byte_list s) c (byte_list s) (λ x e. e) h

truth_of : Content → Bool
truth_of (truth b) = b
truth_of _ = false

first_of : Content → Content
first_of (list (content c cs)) = c
first_of c = c

-- a mark that was read tells what the message is
pub marked : (v : Bool) (bytes : List ℕ) → ReadsAs reads_mark (list_of (truth v ∷ [])) bytes → IsKind v bytes
unfolding truth_of first_of
marked true bytes r = r
marked false bytes r = λ u. false_true (ap (λ c. truth_of (first_of c)) (one_content reads_mark bytes _ _ r u))
  where
    IsFalse : Bool → Type 0
    IsFalse false = Unit {0}
    IsFalse true = ⊥

    false_true : false ≡ true → ⊥
    false_true p = subst {0, 0} IsFalse p tt

-- ---- the mark and the error, read together

-- what a struct of a mark and another field holds
signs_content : (v : Bool) (h : Content → Type 0) (c : Content) → HoldsTuple ((λ x. x ≡ truth v) ∷ h ∷ []) c → (x : Content) × (c ≡ list_of (truth v ∷ x ∷ [])) × h x
signs_content v h c t = go t.contents t.list t.held
  where
    go : (cs : List Content) → c ≡ list_of cs → HoldsEach ((λ x. x ≡ truth v) ∷ h ∷ []) cs → (x : Content) × (c ≡ list_of (truth v ∷ x ∷ [])) × h x
    go [] e p = absurd p
    go (x ∷ []) e p = absurd p.1
    go (x ∷ y ∷ []) e p = (y, e ∙ ap (λ z. list_of (z ∷ y ∷ [])) p.0, p.1.0)
    go (x ∷ y ∷ z ∷ zs) e p = absurd p.1.1

-- what begins with a message that reads so
pub signs_read : {A : Type 0} (v : Bool) (h : Content → Type 0) (holds : A → Content → Type 0) (bytes : List ℕ) (a : A) → ((c : Content) → holds a c → HoldsTuple ((λ x. x ≡ truth v) ∷ h ∷ []) c)
    → BeginsWith LEVELS reads_signs holds bytes a → (x : Content) × ReadsAs reads_signs (list_of (truth v ∷ x ∷ [])) bytes × h x
signs_read v h holds bytes a both b =
    let s = signs_content v h b.content (both b.content b.held) in
    (s.0, record { text = b.text; rest = b.rest; front = b.front; message = subst (λ c. ReadsMessageAs LEVELS reads_signs b.text c) s.1 b.message }, s.2)

pub signs_kind : (v : Bool) (x : Content) (bytes : List ℕ) → ReadsAs reads_signs (list_of (truth v ∷ x ∷ [])) bytes → IsKind v bytes
signs_kind v x bytes r = marked v bytes (record {
  text = r.text;
  rest = r.rest;
  front = r.front;
  message = record { capabilities = r.message.capabilities; tree = r.message.tree; message = r.message.message; read = (signs (expand r.message.tree) v x r.message.read).0 };
})

pub signs_errorless : (v : Bool) (x : Content) (bytes : List ℕ) → x ≡ nothing → ReadsAs reads_signs (list_of (truth v ∷ x ∷ [])) bytes → TellsNoError bytes
signs_errorless v x bytes none r error u =
    let same = one_message LEVELS _ _ r.text u.text r.rest u.rest _ _ r.message.message u.message.message (sym r.front ∙ u.front) in
    (signs (expand r.message.tree) v x r.message.read).1 none _ (ap (λ t. reads_failure (expand t)) same.2 ∙ u.message.read)

-- what is none is nothing
pub nothing_of : {A : Type 0} (h : A → Content → Type 0) (o : Option A) (c : Content) → is_some o ≡ false → HoldsOption h o c → c ≡ nothing
nothing_of h None c e p = p
nothing_of h (Some a) c e p = absurd cc
