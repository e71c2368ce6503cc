-- What the plain reader computes says what the bytes are.
use Rattle.std.proofs.Common.{◌≡◌, ◌≢◌, ℕ, suc, ◌<◌, ◌^◌, Bool, true, ◌&&◌, List, [], ◌∷◌, length, Some, None, sym, ap, subst, ◌∙◌, append-nil, nat_lt, arith}
use Rattle.std.proofs.lemmas.Bool.{ltb-true, and_parts}
use Rattle.std.proofs.lemmas.Option.{none-some}
use Rattle.std.specs.List.{AllByRecursion}
use Rattle.bser_format.specs.Tree.{Tree}
use Rattle.bser_format.specs.Message.{IsMessage}
use Rattle.bser_format.specs.Grammar.{Spells}
use Rattle.bser_format.specs.Plain.{forget, message, value}
use Rattle.bser_format.specs.Expand.{expand}
use Rattle.bser_format.specs.Normal.{normal}
use Rattle.bser_format.specs.Measures.{depth}
use Rattle.bser_format.specs.Canonical.{canonical_message}
use Rattle.bser_format.proofs.Exact.{value_exact}
use Rattle.bser_format.proofs.Messages.{message_exact, tree_reads}
use Rattle.bser_format.proofs.Settled.{settles, message_settles}
use Rattle.test_documents.specs.Reading.{IsBody, IsRead, IsReadBack, HasNoMessage, IsValueOf}

abbrev pub are_bytes : List ℕ → Bool
are_bytes [] = true
are_bytes (x ∷ b) = nat_lt x 256 && are_bytes b

bytes_all : (b : List ℕ) → are_bytes b ≡ true → AllByRecursion (λ x. x < 256) b
bytes_all [] e = tt
bytes_all (x ∷ b) e = let both = and_parts (nat_lt x 256) (are_bytes b) e in (ltb-true x 256 both.0, bytes_all b both.1)

pub is_read : (n : ℕ) (b : List ℕ) (t : Tree) → are_bytes b ≡ true → message n b ≡ Some ((0, t), []) → IsRead n b t
is_read n b t all e =
    let h = (message_exact n 0 b [] t (bytes_all b all)).0 e in
    (subst (IsMessage n 0 t) (sym (h.1 ∙ append-nil h.0)) h.2, e)

pub is_refused : (n : ℕ) (b : List ℕ) → message n b ≡ None → HasNoMessage n b
is_refused n b e = (e, λ c t a x h same. none-some ((c, t), x) (sym e ∙ ap (message n) same ∙ ap forget (tree_reads n c t a x h)))

pub is_body : (n : ℕ) (b : List ℕ) (t : Tree) → are_bytes b ≡ true → value n b ≡ Some (t, []) → IsBody n b t
is_body n b t all e =
    let h = (value_exact n b [] t (bytes_all b all)).0 e in
    (subst (Spells n t) (sym (h.1 ∙ append-nil h.0)) h.2, e)

pub value_of : (n : ℕ) (b : List ℕ) (t v : Tree) → are_bytes b ≡ true → value n b ≡ Some (t, []) → normal (expand t) ≡ Some v → IsValueOf t v
value_of n b t v all read e = (e, settles n t b v (is_body n b t all read).0 e)

pub read_value : (n : ℕ) (b : List ℕ) (t v : Tree) → are_bytes b ≡ true → message n b ≡ Some ((0, t), []) → normal (expand t) ≡ Some v → IsValueOf t v
read_value n b t v all read e = (e, message_settles n 0 t v b (is_read n b t all read).0 e)

pub read_back : (n : ℕ) (v : Tree) (k : ℕ) → are_bytes (canonical_message v) ≡ true → message n (canonical_message v) ≡ Some ((0, v), []) → normal (expand v) ≡ Some v → nat_lt (depth v) (suc n) ≡ true → length (canonical_message v) ≡ k → k < 2 ^ 63
    → IsReadBack n v k
read_back n v k all read e deep long short =
    let it = is_read n (canonical_message v) v all read in
    let below : depth v < suc n = ltb-true (depth v) (suc n) deep in
    ((e, message_settles n 0 v v (canonical_message v) it.0 e), omega arith, long, short, it)

pub shorter : (a b : List ℕ) → nat_lt (length a) (length b) ≡ true → a ≢ b
shorter a b l e = let less : length a < length b = ltb-true (length a) (length b) l in absurd (omega (arith, ap length e))
