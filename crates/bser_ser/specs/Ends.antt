-- What the serializing of a value leaves.
use Rattle.std.specs.Prelude.{◌≡◌, ℕ, List, ◌++◌, Result, Ok, Err, IfOk, MatchResult, ◌⊎◌}
use Rattle.bser_format.specs.Tree.{Tree}
use Rattle.bser_format.specs.Canonical.{canonical_body, canonical_key, IsWritable}
use Rattle.bser_format.specs.declared.errors.Error.{Error}
use Rattle.bser_format.specs.Written.{map_ok}
use Rattle.bser_ser.specs.Sent.{Sent, Refused, IsExcuse, refusal_of}
use Rattle.bser_ser.specs.Stopped.{Tells}
use Rattle.bser_ser.specs.declared.serializer.Serializer.{Serializer}

-- the canonical text of a value's tree, or why it has none
abbrev pub text_of : Result Tree Error → Result (List ℕ) Error
text_of m = map_ok canonical_body m

-- where there is a tree, its numbers and counts are in their ranges, its texts are UTF-8, and each row of a template has a field for each key
abbrev pub CanBeWritten : Result Tree Error → Type 0
CanBeWritten m = IfOk m IsWritable

-- one text and then the other, or why the first that is missing is
abbrev pub then : Result (List ℕ) Error → Result (List ℕ) Error → Result (List ℕ) Error
then (Err e) m = Err e
then (Ok xs) (Err e) = Err e
then (Ok xs) (Ok ys) = Ok (xs ++ ys)

-- a field's key and then its value, or why that has no tree
abbrev pub field_text : List ℕ → Result Tree Error → Result (List ℕ) Error
field_text key m = then (Ok (canonical_key key)) (text_of m)

-- there is a text, and it was put
abbrev pub Ends : {S : Type 0} → Tells S → Result (List ℕ) Error → Serializer S → Serializer S → Type 0
Ends sink (Err e) old new = ⊥
Ends sink (Ok text) old new = Sent sink old new text

-- a beginning of the text was put, and then a put failed, with an excuse
pub record Broken {S : Type 0} (sink : Tells S) (text : List ℕ) (old new : Serializer S) (e : Error) : Type 0 where
  pub front : List ℕ
  pub rest : List ℕ
  pub is : text ≡ front ++ rest
  pub refused : Refused sink old new front e
  pub excuse : IsExcuse e

-- something was put before the error, which is this one or has an excuse
pub record Tried {S : Type 0} (sink : Tells S) (reason : Error) (old new : Serializer S) (e : Error) : Type 0 where
  pub front : List ℕ
  pub refused : Refused sink old new front e
  pub why : (e ≡ reason) ⊎ IsExcuse e

-- an error: without a text something was put, and the error says why there is none, or has an
-- excuse; else a beginning of it was put, with an excuse
abbrev pub Stops : {S : Type 0} → Tells S → Result (List ℕ) Error → Serializer S → Serializer S → Error → Type 0
Stops sink (Err reason) old new e = Tried sink reason old new e
Stops sink (Ok text) old new e = Broken sink text old new e

-- a text was put, or a beginning of it, with an excuse that the serializer keeps
abbrev pub AddsText : {S A E : Type 0} → Tells S → Serializer S → Serializer S → List ℕ → Result A E → Type 0
AddsText sink old new text r = MatchResult r (λ _. Sent sink old new text) (λ _. Broken sink text old new (refusal_of new))

-- the text of a tree was put, or something was put before an error, which the serializer keeps
abbrev pub AddsTree : {S A E : Type 0} → Tells S → Serializer S → Serializer S → Result Tree Error → Result A E → Type 0
AddsTree sink old new m r = MatchResult r (λ _. Ends sink (text_of m) old new) (λ _. Stops sink (text_of m) old new (refusal_of new))
