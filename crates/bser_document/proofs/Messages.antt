-- A message that was told is kept.
use Rattle.std.proofs.Common.{◌≡◌, ℕ, List, [], Option, Some, Result, Ok, IfOk, refl, sym, ap, subst, ◌∙◌}
use Rattle.bser_format.specs.Expand.{expand}
use Rattle.bser_format.specs.Expected.{node_due}
use Rattle.bser_format.proofs.Settled.{filled_settles}
use Rattle.bser_events.specs.Events.{events}
use Rattle.bser_events.proofs.Takings.{told_anywhere}
use Rattle.bser_deserializer.proofs.WholeRows.{spelled_whole}
use Rattle.bser_value.proofs.Read.{value_there}
use Rattle.bser_messages.specs.Told.{TellsMessage, BeginsTold, TookTold, IsNextTold}
use Rattle.bser_messages.specs.declared.limits.Limits.{Limits}
use Rattle.bser_messages.specs.declared.told.Header.{Header}
use Rattle.bser_messages.specs.declared.told.TellError.{TellError}
use Rattle.bser_document.specs.declared.builder.DocumentBuilder.{DocumentBuilder}
use Rattle.bser_document.specs.declared.document.Document.{Document}
use Rattle.bser_document.specs.DocumentView.{Views, ViewsValue, ViewsDocument, Takes}
use Rattle.bser_document.specs.Messages.{KeepsMessage, BeginsWithKept, TookKept}
use Rattle.bser_document.proofs.Kept.{all_taken, as_document}
use Rattle.bser_document.proofs.Read.{kept_long}
use Rattle.bser_document.proofs.Whole.{value_known}

-- all that was told is a whole value
pub message_told : (limits : Limits) (before after : DocumentBuilder) (h : Header) (text : List ℕ) → Views before [] → TellsMessage limits (λ a e p b. Takes a e b) before after h text → ViewsValue after
message_told limits before after h text views k =
    let w = value_there k.tree k.keys in
    let body = k.message.body in
    record {
      tree = k.tree;
      read = w.0;
      normal = w.1;
      values = filled_settles limits.levels node_due (expand k.tree) w.0 body (record { tree = k.tree; stands = refl; spelled = k.message.value }) w.1;
      rows = spelled_whole limits.levels k.tree body k.message.value;
      views = all_taken before (events k.tree) after (told_anywhere Takes h.start k.bytes before after (events k.tree) k.told) [] views;
    }

module _ (limits : Limits) (before after : DocumentBuilder) (d : Document) where
  pub message_kept : (h : Header) (text : List ℕ) → Views before [] → d.nodes ≡ after.nodes → d.strings ≡ after.strings → TellsMessage limits (λ a e p b. Takes a e b) before after h text → KeepsMessage limits text d
  unfolding message_told
  message_kept h text views nodes strings k =
      let v = message_told limits before after h text views k in
      let kept : ViewsDocument d (events k.tree) = as_document after d (events k.tree) nodes strings (all_taken before (events k.tree) after (told_anywhere Takes h.start k.bytes before after (events k.tree) k.told) [] views) in
      record {
        capabilities = h.capabilities;
        tree = k.tree;
        message = k.message;
        short = k.short;
        views = kept;
        value = v.normal ∙ ap Some (sym (value_known d.nodes.items d.strings.items k.tree v.read kept.shows.same v.rows v.normal));
        linear = kept_long limits.levels d k.tree k.message.body kept k.message.value;
      }

  pub front_kept : (h : Header) (bytes : List ℕ) → Views before [] → d.nodes ≡ after.nodes → d.strings ≡ after.strings → BeginsTold limits (λ a e p b. Takes a e b) bytes before after h → BeginsWithKept limits bytes d
  front_kept h bytes views nodes strings k =
      record { text = k.text; rest = k.rest; front = k.front; keeps = message_kept h k.text views nodes strings k.tells }

  pub next_kept : (h : Header) (old new : Option (List ℕ)) → Views before [] → d.nodes ≡ after.nodes → d.strings ≡ after.strings → TookTold limits (λ a e p b. Takes a e b) old new before after h → TookKept limits old new d
  next_kept h old new views nodes strings k = record { text = k.text; bytes = k.bytes; keeps = message_kept h k.text views nodes strings k.tells }

-- a message was told, and not the end of the stream
pub next_told : (limits : Limits) (before after : DocumentBuilder) (r : Result (Option Header) TellError) (h : Header) (old new : Option (List ℕ)) → r ≡ Ok (Some h) → IfOk r (IsNextTold limits (λ a e p b. Takes a e b) old new before after) → TookTold limits (λ a e p b. Takes a e b) old new before after h
next_told limits before after r h old new is told = subst (λ r. IfOk r (IsNextTold limits (λ a e p b. Takes a e b) old new before after)) is told
