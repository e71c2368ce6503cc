-- What a process gives the program, and what the program leaves.
use Rattle.std.specs.Prelude.{◌≡◌, ◌<◌, ℕ, List, [], IsUtf8, slice_get, length, take, Option, Some, None, Result, Ok, Err, ◌⊎◌, ⊤, String, string_bytes}
use Rattle.std.specs.declared.alloc.Global.{Global}
use Rattle.std.specs.declared.env.FillError.{FillError}
use Rattle.std.specs.declared.env.FillError.TheVariants.{NotPresent, TooLong}
use Rattle.std.specs.declared.io.Error as io
use Rattle.bser_format.specs.declared.errors.Error.{Error}
use Rattle.bser_ser.specs.Stopped.{Tells}
use Rattle.bser_canonical.specs.Canon.{Gives, Rewrote, RefusesRewriting}
use Rattle.bser_canonical.specs.Arguments.{asks_compact, form_of, in_form}
use Rattle.bser_canonical.specs.Line.{PutsLine, unknown_argument}
use Rattle.bser_canonical.specs.declared.program.MessageForm.{MessageForm}

-- ---- arguments

-- the answer to a word: it is at the front of the bytes, or it is longer than they are; and to no
-- word, that there is none
abbrev pub Answers : Option (List ℕ) → Result ℕ FillError → List ℕ → Type 0
Answers (Some word) (Ok n) bytes = word ≡ take n bytes
Answers (Some word) (Err TooLong) bytes = length bytes < length word
Answers None (Err NotPresent) bytes = ⊤
Answers _ _ bytes = ⊥

-- the answer is that to the word at this place, where the words are known
abbrev pub AnswersAt : Option (List (List ℕ)) → ℕ → Result ℕ FillError → List ℕ → Type 0
AnswersAt given place r bytes = (words : List (List ℕ)) → given ≡ Some words → Answers (slice_get words place) r bytes

-- the text is the bytes, or empty where they are not UTF-8
abbrev pub IsTextOf : List ℕ → List ℕ → Type 0
IsTextOf bytes text = (text ≡ bytes) ⊎ ((text ≡ []) × ¬ IsUtf8 bytes)

-- a text asks for the compact form just where the word does, and there is none where there is no word
abbrev pub StandsFor : Option (List ℕ) → Option (String Global) → Type 0
StandsFor None None = ⊤
StandsFor (Some word) (Some text) = asks_compact (string_bytes text) ≡ asks_compact word
StandsFor _ _ = ⊥

-- the text stands for the word at this place, where the words are known
abbrev pub IsTextAt : Option (List (List ℕ)) → ℕ → Option (String Global) → Type 0
IsTextAt given place text = (words : List (List ℕ)) → given ≡ Some words → StandsFor (slice_get words place) text

-- the words ask for this form, where they are known
abbrev pub AskFor : Option (List (List ℕ)) → Option MessageForm → Type 0
AskFor given form = (words : List (List ℕ)) → given ≡ Some words → form_of words ≡ form

-- ---- what the program leaves

-- how a writer answers to its last flush
abbrev pub Ending : Type 0 → Type 1
Ending W = W → Result Unit io.Error → Type 0

-- a message was rewritten in the form that is asked for, and the writer ended so
pub record Ended {R W : Type 0} (given : Option (List (List ℕ))) (source : Gives R) (sink : Tells W) (ends : Ending W) (old new : R) (writer : W) (r : Result Unit io.Error) : Type 0 where
  pub form : MessageForm
  pub asked : AskFor given (Some form)
  pub after : W
  pub rewrote : Rewrote (in_form form) source sink old new writer after
  pub ended : ends after r

-- rewriting a message in the form that is asked for was refused
pub record Unrewritten {R W : Type 0} (given : Option (List (List ℕ))) (source : Gives R) (sink : Tells W) (old new : R) (writer : W) (e : Error) : Type 0 where
  pub form : MessageForm
  pub asked : AskFor given (Some form)
  pub after : W
  pub refused : RefusesRewriting (in_form form) source sink old new writer after e

-- why the program failed: no memory for the arguments, rewriting was refused, or the writer ended with a fault
abbrev pub Fails : {R W : Type 0} → Option (List (List ℕ)) → Gives R → Tells W → Ending W → R → R → W → Type 0
Fails given source sink ends old new writer =
    (new ≡ old)
    ⊎ ((e : Error) × Unrewritten given source sink old new writer e)
    ⊎ ((fault : io.Error) × Ended given source sink ends old new writer (Err fault))

-- no form is asked for that is known: nothing was read, and there is a line that says so
pub record Unasked {R E : Type 0} (given : Option (List (List ℕ))) (sink : Tells E) (old new : R) (before after : E) : Type 0 where
  pub asked : AskFor given None
  pub untouched : new ≡ old
  pub line : PutsLine sink unknown_argument before after
