-- What the writing of an item leaves.
use Rattle.std.specs.Prelude.{Result, Ok, MatchResult}
use Rattle.bser_format.specs.Canonical.{IsWritable}
use Rattle.bser_format.specs.Tree.{Tree, array, object, template}
use Rattle.bser_format.specs.declared.errors.Error as format
use Rattle.bser_format.specs.declared.errors.Error.TheVariants as causes
use Rattle.bser_ser.specs.Ends.{Ends, Stops, text_of}
use Rattle.bser_ser.specs.Sent.{refusal_of}
use Rattle.bser_ser.specs.Stopped.{Tells}
use Rattle.bser_ser.specs.declared.serializer.Serializer.{Serializer}
use Rattle.bser_document.specs.declared.put.AddError.{AddError}
use Rattle.bser_document.specs.declared.put.AddError.TheVariants.{Put, OutOfMemory}

-- the error of a part that was not put
abbrev pub error_of : {S : Type 0} → AddError → Serializer S → format.Error
error_of Put out = refusal_of out
error_of OutOfMemory out = causes.OutOfMemory

-- the text of a tree that can be written was put, or a beginning of it before an error
abbrev pub AddsItem : {S A : Type 0} → Tells S → Serializer S → Serializer S → Tree → Result A AddError → Type 0
AddsItem sink old new u r = MatchResult r (λ _. Ends sink (text_of (Ok u)) old new × IsWritable u) (λ e. Stops sink (text_of (Ok u)) old new (error_of e new))

-- a value that is no container
abbrev pub IsPlain : Tree → Type 0
IsPlain (array ts) = ⊥
IsPlain (object es) = ⊥
IsPlain (template ks rs) = ⊥
IsPlain _ = Unit {0}
