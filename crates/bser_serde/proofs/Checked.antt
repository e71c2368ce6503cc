-- What was checked is a well-formed message.
use Rattle.std.proofs.Common.{◌≡◌, ◌<◌, ◌^◌, ℕ, ◌+◌, List, ◌++◌, length, sym, ap, subst, ◌∙◌, arith, append-nil, length-append}
use Rattle.std.proofs.lemmas.List.{nil_from_length}
use Rattle.bser_format.proofs.Sound.{IsBytes}
use Rattle.bser_deserializer.specs.declared.deserializer.TheConstants.{LEVELS}
use Rattle.bser_messages.specs.declared.limits.Limits.{Limits}
use Rattle.bser_messages.specs.Limited.{any_length, usual_limits}
use Rattle.bser_serde.specs.HasMessage.{HasMessage, HasHeader, IsFilled}
use Rattle.bser_serde.specs.Messages.{IsWellFormed, BeginsWithMessage}
use Rattle.bser_serde.specs.declared.message.Headed.{Headed}
use Rattle.bser_serde.proofs.Begins.{has_message}
use Rattle.bser_serde.proofs.Told.{usual}

module _ (limits : Limits) (bytes : List ℕ) (start len : ℕ) (b : HasMessage limits.levels limits.bytes bytes start len) where
  checked_text : IsWellFormed limits b.text
  checked_text = record { capabilities = b.capabilities; tree = b.tree; message = b.message; short = b.short; keys = b.keys }

  -- a prefix of the slice is one
  checked_slice : BeginsWithMessage limits bytes
  checked_slice = record { text = b.text; rest = b.rest; front = b.front; message = checked_text }

  -- and the whole slice, where it is as long
  checked_whole : start + len ≡ length bytes → IsWellFormed limits bytes
  checked_whole same =
      let whole = b.whole in
      let none : length b.rest ≡ 0 = omega (arith, whole, same, ap length b.front, length-append b.text b.rest) in
      let text_is : bytes ≡ b.text = b.front ∙ ap (λ r. b.text ++ r) (nil_from_length b.rest none) ∙ append-nil b.text in
      subst (IsWellFormed limits) (sym text_is) checked_text

-- a value fills the body that a header announces
module _ (limits : Limits) (bytes : List ℕ) (body : Headed) (all : IsBytes bytes) (small : length bytes < 2 ^ 63) (h : HasHeader limits.bytes bytes body) (f : IsFilled limits.levels body) where
  pub filled_slice : BeginsWithMessage limits bytes
  filled_slice = checked_slice limits bytes _ _ (has_message limits.levels limits.bytes bytes body all small h f)

  -- and nothing follows it, within the usual limits
  pub filled_frame : limits.levels ≡ LEVELS → limits.bytes ≡ any_length → body.len ≡ length body.bytes.now → IsWellFormed usual_limits bytes
  filled_frame levels most same =
      let within = h.whole in
      subst (λ l. IsWellFormed l bytes) (usual limits levels most)
      (checked_whole limits bytes _ _ (has_message limits.levels limits.bytes bytes body all small h f) (omega (arith, within, same)))
