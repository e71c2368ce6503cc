-- One message read as any value, and the tree of that value written in a form: as it is, or as
-- another tree that means the same.
use Rattle.std.specs.Prelude.{◌≡◌, ◌<◌, ◌^◌, length, Some, Ok, ◌⊎◌}
use Rattle.bser_format.specs.Tree.{Tree}
use Rattle.bser_format.specs.Canonical.{canonical_body, canonical_message}
use Rattle.bser_format.specs.Content.{Content, value}
use Rattle.bser_format.specs.ReadsAny.{reads_value}
use Rattle.bser_format.specs.ValueTree.{IsValueTree}
use Rattle.bser_format.specs.declared.errors.Error.{Error}
use Rattle.bser_source.specs.declared.device.Source as Source
use Rattle.bser_deserializer.specs.Askings.{asking_value}
use Rattle.bser_ser.specs.Message.{Missed}
use Rattle.bser_ser.specs.Stopped.{Takes, Tells}
use Rattle.bser_messages.specs.Messages.{TookMessage, RefusesReader}
use Rattle.bser_value.specs.ValueView.{tree_of, HoldsValue}
use Rattle.bser_value.specs.declared.value.Value.{Value}

-- in the canonical form a tree is written as it is
abbrev pub canonical : Tree → Tree
canonical t = t

-- what a reader shows: the bytes left and its count of failures
abbrev pub Gives : Type 0 → Type 1
Gives R = Source.Ghosts R

-- the value of this tree was read
pub record IsReadAs (u : Tree) (c : Content) : Type 0 where
  pub same : c ≡ value u
  pub values : IsValueTree u

-- a `Value` holds what was read exactly where its tree is the tree of that
abbrev pub ValueIsItsTree : Type 0
ValueIsItsTree = (v : Value) (c : Content) → (HoldsValue v c → IsReadAs (tree_of v) c) × (IsReadAs (tree_of v) c → HoldsValue v c)

-- exactly one message was taken, which reads as the value of a tree, and exactly the message of that tree in the form was written; neither counted a failure
pub record Rewrote {R W : Type 0} (form : Tree → Tree) (source : Gives R) (sink : Tells W) (old new : R) (before after : W) : Type 0 where
  pub tree : Tree
  pub read : TookMessage 128 reads_value IsReadAs (source.remaining old) (source.remaining new) tree
  pub kept : source.failures new ≡ source.failures old
  pub written : Takes sink before after (canonical_message (form tree))
  pub short : length (canonical_body (form tree)) < 2 ^ 63

-- reading was refused, and nothing was written
pub record Unread {R W : Type 0} (source : Gives R) (old new : R) (before after : W) (e : Error) : Type 0 where
  pub refused : RefusesReader 128 reads_value (Some asking_value) e (source.remaining old) (source.failures old) (source.failures new)
  pub untouched : after ≡ before

-- exactly one message was taken, which reads as a value, and the writing of that value was refused
pub record Unwritten {R W : Type 0} (form : Tree → Tree) (source : Gives R) (sink : Tells W) (old new : R) (before after : W) (e : Error) : Type 0 where
  pub tree : Tree
  pub read : TookMessage 128 reads_value IsReadAs (source.remaining old) (source.remaining new) tree
  pub kept : source.failures new ≡ source.failures old
  pub missed : Missed sink (Ok (form tree)) before after e

-- a refusal, of the reading or of the writing
abbrev pub RefusesRewriting : {R W : Type 0} → (Tree → Tree) → Gives R → Tells W → R → R → W → W → Error → Type 0
RefusesRewriting form source sink old new before after e = Unread source old new before after e ⊎ Unwritten form source sink old new before after e
