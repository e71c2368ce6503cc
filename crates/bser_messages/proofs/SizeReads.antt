-- A size that was told is that of what was read.
use Rattle.std.proofs.Common.{◌≡◌, ℕ, ◌≤◌, List, inl, inr, length, Some, None, cond, refl, ap, subst, ◌∙◌, arith}
use Rattle.bser_format.specs.Tree.{Tree}
use Rattle.bser_format.specs.Expand.{expand}
use Rattle.bser_format.specs.Message.{IsMessage}
use Rattle.bser_format.specs.Content.{Content, one, value}
use Rattle.bser_format.specs.ReadsAny.{has_utf8_keys, reads_ignored}
use Rattle.bser_format.specs.Asks.{asks_any}
use Rattle.bser_format.specs.declared.errors.Error.{Error}
use Rattle.bser_format.proofs.Options.{when_some}
use Rattle.bser_format.proofs.Sizes.{nodes_below, length_then}
use Rattle.bser_format.proofs.Squares.{depth_below}
use Rattle.bser_events.specs.Events.{events}
use Rattle.bser_deserializer.specs.State.{State}
use Rattle.bser_deserializer.specs.Reading.{Answers, Refuses, FillsReadably, owned}
use Rattle.bser_deserializer.specs.Askings.{asking_ignored}
use Rattle.bser_deserializer.specs.Any.{TookAny}
use Rattle.bser_deserializer.proofs.Clean.{clean_any}
use Rattle.bser_deserializer.proofs.Refusals.{by_name}
use Rattle.bser_messages.specs.Messages.{ReadsMessageAs, BeginsWith, RefusesSlice}
use Rattle.bser_messages.specs.Limited.{BeginsWithin, RefusesSliceWithin}
use Rattle.bser_messages.specs.Sizes.{capped, reads_size, HoldsTreeSize, IsSizeOf}
use Rattle.bser_messages.specs.MessageSizes.{size_passes, asking_size, MessageSize, MessageSizeWithin, SizeRefused, SizeRefusedWithin}
use Rattle.bser_messages.specs.Tallies.{Shows, Takes, nothing_told}
use Rattle.bser_messages.specs.declared.limits.Limits.{Limits}
use Rattle.bser_messages.specs.declared.size.Size.{Size}
use Rattle.bser_messages.specs.declared.sizing.Sizing.{Sizing}
use Rattle.bser_messages.proofs.Tallies.{tally, all_taken}
use Rattle.bser_messages.proofs.TreeSizes.{tree_grows}

pub told_read : (before after : Sizing) (s : Size) (old new : State) → Shows before nothing_told → TookAny Takes before after old new → s ≡ after.size → Answers reads_size HoldsTreeSize old new s
told_read before after s old new shows k is =
    let m = tally (events k.tree) nothing_told in
    let shown : Shows after m = all_taken before (events k.tree) after k.told nothing_told shows in
    let grown = tree_grows k.tree k.rows nothing_told (record { template = refl; within = omega arith }) in
    record {
      tree = expand k.tree;
      content = value (expand k.tree);
      text = k.text;
      filled = k.filled;
      read = ap (λ b. cond b (Some (value (expand k.tree))) None) k.keys;
      held = record {
        tree = expand k.tree;
        same = refl;
        size = record {
          values = ap (λ z. z.values) is ∙ shown.values ∙ ap capped (omega (arith, grown.values));
          keys = ap (λ z. z.key_bytes) is ∙ shown.keys ∙ ap capped (omega (arith, grown.keys));
          levels = ap (λ z. z.depth) is ∙ shown.depth ∙ ap capped (omega (arith, grown.depth));
        };
      };
      took = k.took;
      state = k.state;
    }

-- what is refused whatever it is, has no size
pub size_refused : (e : Error) (old new : State) → Refuses reads_ignored (Some asking_ignored) owned e old new → Refuses reads_size (Some asking_size) owned e old new
size_refused e old new h =
    by_name owned (FillsReadably reads_size old) (asks_any old.opened old.levels old.due) e old.source new.source
    (λ text f. (tt, λ x. size_passes old.opened old.levels old.due f.tree f.content text x f.filled f.read))
    (λ x p. clean_any old.opened old.levels old.due x e p) refl h.fails h.names

-- ---- messages

-- a message's value has fewer bytes than the message
body_shorter : (n c : ℕ) (t : Tree) (b : List ℕ) (m : IsMessage n c t b) → length m.body ≤ length b
body_shorter n c t b m = let w = m.whole in omega (arith, length_then w, length_then w.second, length_then w.second.second, ap length w.second.second.second)

pub begins_size : (n : ℕ) (bytes : List ℕ) (s : Size) → n ≤ 1024 → BeginsWith n reads_size HoldsTreeSize bytes s → MessageSize n bytes s
begins_size n bytes s few b =
    let w = b.message in
    let t = expand w.tree in
    let keys = when_some (has_utf8_keys t) (Some (value t)) b.content w.read in
    let same : b.held.tree ≡ t = let e = b.held.same in let r = keys.1 in cc in
    let size = subst (IsSizeOf s) same b.held.size in
    let message = w.message in
    let below = nodes_below n w.tree message.body message.value in
    let deep = depth_below n w.tree message.body message.value in
    let short = body_shorter n w.capabilities w.tree b.text message in
    record {
      text = b.text;
      rest = b.rest;
      front = b.front;
      capabilities = w.capabilities;
      tree = w.tree;
      message = message;
      utf8 = keys.0;
      values = size.values ∙ omega (arith, below, short, message.short);
      keys = size.keys;
      levels = size.levels ∙ omega (arith, few, deep);
    }

pub begins_size_within : (limits : Limits) (bytes : List ℕ) (s : Size) → limits.levels ≤ 1024 → BeginsWithin limits.levels limits.bytes reads_size HoldsTreeSize bytes s → MessageSizeWithin limits bytes s
unfolding begins_size
begins_size_within limits bytes s few b = record { whole = begins_size limits.levels bytes s few b.whole; short = b.short }

-- what is skipped has a size
skipped_message : (n : ℕ) (text : List ℕ) (c : Content) → ReadsMessageAs n reads_ignored text c → (d : Content) × ReadsMessageAs n reads_size text d
skipped_message n text c w = (
  value (expand w.tree),
  record {
    capabilities = w.capabilities;
    tree = w.tree;
    message = w.message;
    read = ap (λ b. cond b (Some (value (expand w.tree))) None) (when_some (has_utf8_keys (expand w.tree)) (Some one) c w.read).0;
  },
)

pub slice_refused : (n : ℕ) (bytes : List ℕ) (e : Error) → RefusesSlice n reads_size (Some asking_size) owned e bytes → SizeRefused n bytes e
slice_refused n bytes e h = record {
  may = h.may;
  names = h.names;
  excuse = λ text rest c w front. let s = skipped_message n text c w in h.excuse text rest s.0 s.1 front;
  memory = h.memory;
}

pub slice_refused_within : (limits : Limits) (bytes : List ℕ) (e : Error) → RefusesSliceWithin limits.levels limits.bytes reads_size (Some asking_size) owned e bytes → SizeRefusedWithin limits bytes e
slice_refused_within limits bytes e (inl long) = inl long
slice_refused_within limits bytes e (inr h) = inr (record { announced = h.announced; refused = slice_refused limits.levels bytes e h.refused })
