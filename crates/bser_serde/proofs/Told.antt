-- What was told is a well-formed message.
use Rattle.std.proofs.Common.{◌≡◌, ◌+◌, ◌-◌, ◌^◌, min, false, ℕ, List, ◌++◌, length, Option, sym, ap, subst, ◌∙◌, arith, append-nil, length-append}
use Rattle.std.proofs.lemmas.List.{nil_from_length}
use Rattle.bser_events.specs.Events.{Event}
use Rattle.bser_events.specs.declared.event.Place.{Place}
use Rattle.bser_messages.specs.declared.limits.Limits.{Limits}
use Rattle.bser_messages.specs.declared.told.Header.{Header}
use Rattle.bser_messages.specs.Told.{TellsMessage, BeginsTold, TookTold}
use Rattle.bser_deserializer.specs.declared.deserializer.TheConstants.{LEVELS}
use Rattle.bser_messages.specs.Descriptions.{LiesWithin}
use Rattle.bser_messages.specs.Limited.{any_length, usual_limits}
use Rattle.bser_messages.specs.Told.{SliceUntold, NextUntold, IsReasonWithin, HasPlace}
use Rattle.bser_messages.specs.declared.told.TellError.{TellError}
use Rattle.bser_source.specs.declared.device.Source as source
use Rattle.bser_serde.specs.Messages.{IsWellFormed, BeginsWithMessage, BeginsWithMessageOf, TookMessage}
use Rattle.bser_serde.specs.Refusals.{SliceUnread, FrameUnread, NextUnread, IsUnfit, IsUntold}
use Rattle.bser_serde.specs.declared.read_error.ReadError.{ReadError}
use Rattle.bser_serde.specs.declared.read_error.ReadError.TheVariants.{Malformed, Misfit, BytesLeft, Ended, OutOfMemory}

module _ {B : Type 0} (limits : Limits) (takes : B → Event → Place → B → Type 0) (before after : B) (h : Header) where
  pub well_formed : (text : List ℕ) → TellsMessage limits takes before after h text → IsWellFormed limits text
  well_formed text t = record { capabilities = h.capabilities; tree = t.tree; message = t.message; short = t.short; keys = t.keys }

  -- a prefix of the slice is one
  pub begins_with : (bytes : List ℕ) → BeginsTold limits takes bytes before after h → BeginsWithMessage limits bytes
  begins_with bytes t = record { text = t.text; rest = t.rest; front = t.front; message = well_formed t.text t.tells }

  -- as long as its header tells
  pub begins_with_of : (bytes : List ℕ) (n : ℕ) → BeginsTold limits takes bytes before after h → n ≡ min (h.start + h.len) (2 ^ 64 - 1) → BeginsWithMessageOf limits bytes n
  unfolding begins_with
  begins_with_of bytes n t is =
      (begins_with bytes t, (let whole = t.tells.whole in let short = t.tells.message.short in omega (arith, whole, short, is)))

  -- and the whole slice, where it is as long
  pub is_whole : (bytes : List ℕ) (n : ℕ) → BeginsTold limits takes bytes before after h → n ≡ min (h.start + h.len) (2 ^ 64 - 1) → n ≡ length bytes → IsWellFormed limits bytes
  is_whole bytes n t is same =
      let whole = t.tells.whole in
      let short = t.tells.message.short in
      let none : length t.rest ≡ 0 = omega (arith, whole, short, is, same, ap length t.front, length-append t.text t.rest) in
      let text_is : bytes ≡ t.text = t.front ∙ ap (λ r. t.text ++ r) (nil_from_length t.rest none) ∙ append-nil t.text in
      subst (IsWellFormed limits) (sym text_is) (well_formed t.text t.tells)

  -- exactly one was taken
  pub took_message : (old new : Option (List ℕ)) → TookTold limits takes old new before after h → TookMessage limits old new
  took_message old new t = record { text = t.text; bytes = t.bytes; message = well_formed t.text t.tells }

-- ---- limits

abbrev limits_of : ℕ → ℕ → Limits
limits_of levels bytes = record { levels = levels; bytes = bytes }

-- limits are known by their parts
pub usual : (l : Limits) → l.levels ≡ LEVELS → l.bytes ≡ any_length → l ≡ usual_limits
usual l levels bytes = ap (λ n. limits_of n l.bytes) levels ∙ ap (λ n. limits_of LEVELS n) bytes

-- ---- refusals

-- a well-formed message at the front is a misfit
pub unfit_slice : (limits : Limits) (bytes : List ℕ) (e : ReadError) → BeginsWithMessage limits bytes → IsUnfit e → SliceUnread limits bytes e
unfit_slice limits bytes (Malformed d) b h = absurd h
unfit_slice limits bytes (Misfit m) b h = b
unfit_slice limits bytes (BytesLeft n) b h = absurd h
unfit_slice limits bytes Ended b h = absurd h
unfit_slice limits bytes OutOfMemory b h = tt

-- a slice that was not told is not read
pub untold_slice : (limits : Limits) (bytes : List ℕ) (u : TellError) (e : ReadError) → SliceUntold limits false bytes u.reason → HasPlace u → u.given ≡ length bytes → IsUntold u e → SliceUnread limits bytes e
untold_slice limits bytes u (Malformed d) s p g h =
    (subst (SliceUntold limits false bytes) h.0 s, h.1, subst (λ n. LiesWithin n d) g (subst (IsReasonWithin u.given) h.0 p))
untold_slice limits bytes u (Misfit m) s p g h = absurd h
untold_slice limits bytes u (BytesLeft n) s p g h = absurd h
untold_slice limits bytes u Ended s p g h = absurd h
untold_slice limits bytes u OutOfMemory s p g h = tt

-- nor as a frame
pub unread_frame : (limits : Limits) (bytes : List ℕ) (e : ReadError) → SliceUnread limits bytes e → FrameUnread limits bytes e
unread_frame limits bytes (Malformed d) h = h
unread_frame limits bytes (Misfit m) h = h
unread_frame limits bytes (BytesLeft n) h = absurd h
unread_frame limits bytes Ended h = absurd h
unread_frame limits bytes OutOfMemory h = h

-- a well-formed message that was taken is a misfit
pub unfit_next : {S : Type 0} (limits : Limits) (told : source.Ghosts S) (old new : S) (e : ReadError) → TookMessage limits (told.remaining old) (told.remaining new) → IsUnfit e → NextUnread limits told old new e
unfit_next limits told old new (Malformed d) t h = absurd h
unfit_next limits told old new (Misfit m) t h = t
unfit_next limits told old new (BytesLeft n) t h = absurd h
unfit_next limits told old new Ended t h = absurd h
unfit_next limits told old new OutOfMemory t h = tt

-- a reader's message that was not told is not read
pub untold_next : {S : Type 0} (limits : Limits) (told : source.Ghosts S) (old new : S) (u : TellError) (e : ReadError) → NextUntold limits false told old new u.reason → IsUntold u e → NextUnread limits told old new e
untold_next limits told old new u (Malformed d) s h = (subst (NextUntold limits false told old new) h.0 s, h.1)
untold_next limits told old new u (Misfit m) s h = absurd h
untold_next limits told old new u (BytesLeft n) s h = absurd h
untold_next limits told old new u Ended s h = absurd h
untold_next limits told old new u OutOfMemory s h = tt
