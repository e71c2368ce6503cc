-- What callers see of a message's size.
use Rattle.std.specs.Prelude.{◌≡◌, ◌≤◌, ℕ, List, ◌++◌, length, Some}
use Rattle.bser_format.specs.Tree.{Tree}
use Rattle.bser_format.specs.Expand.{expand}
use Rattle.bser_format.specs.Measures.{nodes, depth}
use Rattle.bser_format.specs.Message.{IsMessage}
use Rattle.bser_format.specs.Content.{value}
use Rattle.bser_format.specs.ReadsAny.{has_utf8_keys, reads_ignored}
use Rattle.bser_format.specs.NamedLaws.{HasTextKeys}
use Rattle.bser_format.specs.Asks.{asks_any}
use Rattle.bser_format.specs.TypeLaws.{Passes}
use Rattle.bser_format.specs.declared.errors.Error.{Error}
use Rattle.bser_format.proofs.Anything.{any_passes}
use Rattle.bser_format.proofs.Options.{when_some}
use Rattle.bser_deserializer.specs.Reading.{Asking, owned}
use Rattle.bser_deserializer.specs.Askings.{asking_ignored}
use Rattle.bser_messages.specs.Messages.{RefusesSlice}
use Rattle.bser_messages.specs.Limited.{RefusesSliceWithin}
use Rattle.bser_messages.specs.Sizes.{key_bytes, capped, reads_size}
use Rattle.bser_messages.specs.declared.limits.Limits.{Limits}
use Rattle.bser_messages.specs.declared.size.Size.{Size}

-- what is passed over as a size
pub size_passes : Passes asks_any reads_size
size_passes o n d u c b x f r =
    any_passes o n d u b x f (when_some (has_utf8_keys u) (Some (value u)) c r).0

-- whatever is there, as its size
abbrev pub asking_size : Asking reads_size
asking_size = record { asks = asks_any; passes = size_passes }

-- ---- messages

-- a prefix of the bytes is a message of at most n levels, and the size is that of its tree, whose
-- templates are written out
pub record MessageSize (n : ℕ) (bytes : List ℕ) (s : Size) : Type 0 where
  pub text : List ℕ
  pub rest : List ℕ
  pub front : bytes ≡ text ++ rest
  pub capabilities : ℕ
  pub tree : Tree
  pub message : IsMessage n capabilities tree text
  pub utf8 : HasTextKeys tree
  pub values : s.values ≡ nodes (expand tree)
  pub keys : s.key_bytes ≡ capped (key_bytes (expand tree))
  pub levels : s.depth ≡ depth (expand tree)

-- a slice is refused as a message that is skipped
abbrev pub SizeRefused : ℕ → List ℕ → Error → Type 0
SizeRefused n bytes e = RefusesSlice n reads_ignored (Some asking_ignored) owned e bytes

-- the same within limits, and the message's body is no longer than they allow
pub record MessageSizeWithin (limits : Limits) (bytes : List ℕ) (s : Size) : Type 0 where
  pub whole : MessageSize limits.levels bytes s
  pub short : length whole.message.body ≤ limits.bytes

-- a slice is refused as a message that is skipped within limits
abbrev pub SizeRefusedWithin : Limits → List ℕ → Error → Type 0
SizeRefusedWithin limits bytes e =
    RefusesSliceWithin limits.levels limits.bytes reads_ignored (Some asking_ignored) owned e bytes
