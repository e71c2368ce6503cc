-- What the definitions say of single messages and capabilities.
use Rattle.std.proofs.Common.{◌≡◌, ℕ, List, [], ◌∷◌, true, false, refl}
use Rattle.std.specs.Prelude.{Some, None, codes}
use Rattle.std.specs.Borrow.{Bor}
use Rattle.watchman_types.specs.Capabilities.{one_is_true, says_true, first_missing}
use Rattle.watchman_types.specs.Kinds.{kind_of}
use Rattle.watchman_types.specs.declared.header.Header.{Header}
use Rattle.watchman_types.specs.declared.kind.MessageKind.TheVariants.{Answer, Event}
use Rattle.watchman_types.specs.declared.kind.EventKind.TheVariants.{Canceled}

-- a header of none of the parts
abbrev plain : Header
plain = record {
  unilateral = None;
  error = None;
  log = None;
  state_enter = None;
  state_leave = None;
  files = None;
  canceled = None;
}

-- a message without any of them is the answer, and so is one whose `unilateral` is false
pub plain_is_the_answer : kind_of plain ≡ Answer
plain_is_the_answer = refl

pub false_is_the_answer : kind_of (record plain { unilateral = Some false }) ≡ Answer
false_is_the_answer = refl

-- a subscription that ended is an event of its own
pub canceled_is_an_event : kind_of (record plain { unilateral = Some true; canceled = Some true }) ≡ Event Canceled
canceled_is_an_event = refl

-- a capability counts where it is there and true
pub true_is_had : one_is_true (λ s. s) ((codes "a", false) ∷ (codes "b", true) ∷ []) (codes "b") ≡ true
true_is_had = refl

pub false_is_not_had : one_is_true (λ s. s) ((codes "a", false) ∷ (codes "b", true) ∷ []) (codes "a") ≡ false
false_is_not_had = refl

-- a server that tells none has none, and the first that is wanted is missing
pub untold_is_not_had : says_true (λ (s : List ℕ). s) None (codes "a") ≡ false
untold_is_not_had = refl

pub first_is_missing : (a b : Bor (List ℕ)) → first_missing (λ (s : List ℕ). s) None (a ∷ b ∷ []) ≡ Some a
first_is_missing a b = refl
