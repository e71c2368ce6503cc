-- What is read, or not read, of a message that may be of a type.
use Rattle.std.proofs.Common.{◌≡◌, ◌≢◌, ℕ, List, refl, subst, inl}
use Rattle.std.specs.Prelude.{Option, Some, None, IfSome, IfNone}
use Rattle.bser_types.specs.declared.deserialize.Shape as shape
use Rattle.serde_bser.specs.Values.{Error}
use Rattle.serde_bser.specs.Values.Errors.{OutOfMemory}
use Rattle.watchman_types.specs.Messages.{IsReadAs, IsUnread}
use Rattle.watchman_types.specs.declared.subscription.Subscribed.{Subscribed}
use Rattle.watchman_index.specs.Tells.{Types, IsNone, IsSubscribed, IsNoSubscribed}

-- what is refused, and not for want of memory, is not read
pub not_read : {A : Type 0} (type : shape.Ghosts A) (bytes : List ℕ) (e : Error) → IsUnread type bytes e → e ≢ OutOfMemory → IsNone type bytes
not_read type bytes e r other v u = other ((r.excuse u.text u.rest u.content u.message u.front).memory)

module _ (types : Types) (bytes : List ℕ) (o : Option (Subscribed (List ℕ))) (answer : Subscribed (List ℕ)) where
  -- the clock of an answer that was read
  pub clock_found : IfSome o (IsReadAs types.subscribed bytes) → o ≡ Some answer → IfSome answer.clock (λ clock. IsSubscribed types bytes (Some clock))
  clock_found found is = go answer.clock refl (subst (λ a. IfSome a (IsReadAs types.subscribed bytes)) is found)
    where
      go : (clock : Option (List ℕ)) → answer.clock ≡ clock → IsReadAs types.subscribed bytes answer → IfSome clock (λ c. IsSubscribed types bytes (Some c))
      go None e read = tt
      go (Some clock) e read = (answer, read, e)

  -- an answer that was read, without a clock
  pub clock_none : IfSome o (IsReadAs types.subscribed bytes) → o ≡ Some answer → IfNone answer.clock (IsNoSubscribed types bytes)
  clock_none found is = go answer.clock refl (subst (λ a. IfSome a (IsReadAs types.subscribed bytes)) is found)
    where
      go : (clock : Option (List ℕ)) → answer.clock ≡ clock → IsReadAs types.subscribed bytes answer → IfNone clock (IsNoSubscribed types bytes)
      go None e read = inl (answer, read, e)
      go (Some clock) e read = tt
