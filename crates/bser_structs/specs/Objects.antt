-- What is held, asked for and written, where an object is a value of one type and anything else one of another.
use Rattle.std.specs.Prelude.{Option, Some, None, Result}
use Rattle.bser_format.specs.Tree.{Tree}
use Rattle.bser_format.specs.Content.{Content, Meaning}
use Rattle.bser_format.specs.declared.errors.Error.{Error}
use Rattle.bser_deserializer.specs.Reading.{Asking}
use Rattle.bser_types.specs.Choices.{reads_object_or, asks_object_or}
use Rattle.bser_types.proofs.Choices.{object_or_passes}
use Rattle.bser_structs.specs.declared.object_or.ObjectOr.{ObjectOr}
use Rattle.bser_structs.specs.declared.object_or.ObjectOr.TheVariants.{Object, Other}

-- what the value holds that was read of an object, or of anything else
abbrev pub HoldsObjectOr : {A B : Type 0} → (A → Content → Type 0) → (B → Content → Type 0) → ObjectOr A B → Content → Type 0
HoldsObjectOr object other (Object v) c = object v c
HoldsObjectOr object other (Other v) c = other v c

-- which reader gives its errors, where both types say one
abbrev pub asking_object_or : {O T : Meaning} → Option (Asking O) → Option (Asking T) → Option (Asking (reads_object_or O T))
asking_object_or {O = O} {T = T} (Some a) (Some b) =
    Some (record {
      asks = asks_object_or a.asks b.asks;
      passes = object_or_passes a.asks b.asks O T a.passes b.passes;
    })
asking_object_or _ _ = None

-- the tree that this value is written as, or why it is none
abbrev pub object_or_tree : {A B : Type 0} → (A → Result Tree Error) → (B → Result Tree Error) → ObjectOr A B → Result Tree Error
object_or_tree object other (Object v) = object v
object_or_tree object other (Other v) = other v
