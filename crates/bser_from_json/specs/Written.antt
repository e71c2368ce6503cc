-- What is written of JSON texts, and what an error is and leaves.
use Rattle.std.specs.Prelude.{◌≡◌, ℕ, ◌⊎◌, List, [], ◌∷◌, ◌++◌, Bool, true, false, Option, ⊤}
use Rattle.std.specs.Io.KnownBytes.{Appends}
use Rattle.std.specs.Str.{is_utf8}
use Rattle.std.specs.Str.Lossy.{utf8_valid_len}
use Rattle.json.specs.Lex.{tokens}
use Rattle.bser_format.specs.Canonical.{canonical_message}
use Rattle.bser_format.specs.Compact.{fold_templates}
use Rattle.bser_format.specs.Tree.{Tree}
use Rattle.bser_from_json.specs.Errors.{IsErrorOf}
use Rattle.bser_from_json.specs.Lines.{around, place_in}
use Rattle.bser_from_json.specs.Made.{makes, made}
use Rattle.bser_from_json.specs.declared.fault.JsonError.TheVariants as errors
use Rattle.bser_from_json.specs.declared.fault.JsonFault.{JsonFault}
use Rattle.bser_from_json.specs.declared.fault.JsonFault.TheVariants as faults
use Rattle.bser_from_json.specs.declared.fault.Place.{Place}
use Rattle.bser_from_json.specs.declared.texts.TextError.{TextError}
use Rattle.bser_from_json.specs.declared.texts.TextError.TheVariants as failures
use Rattle.bser_from_json.specs.declared.texts.Writing.{Writing}

-- ---- a text

-- the tree that is written for a value: with templates where the compact form is asked for
abbrev pub written_tree : Bool → Tree → Tree
written_tree true t = fold_templates t
written_tree false t = t

-- the bytes are the message of a text
abbrev pub IsMessageOf : Writing → List ℕ → List ℕ → Type 0
IsMessageOf w text message = (t : Tree) × (made w.strings (tokens text) ≡ makes t) × (message ≡ canonical_message (written_tree w.is_compact t))

-- the fault of a text, at its place: it is no UTF-8, or its tokens are refused so
abbrev pub IsFaultOf : Writing → List ℕ → JsonFault → Place → Type 0
IsFaultOf w text f p = ((is_utf8 text ≡ false) × (f ≡ faults.NotUtf8) × (p ≡ place_in text (utf8_valid_len text))) ⊎ IsErrorOf text text 0 (made w.strings (tokens text)) (errors.Text f p)

-- the same error, of a text that begins at this place
abbrev pub IsWithin : TextError → Place → TextError → Type 0
IsWithin (failures.Json (errors.Text f q)) start e = e ≡ failures.Json (errors.Text f (around start q))
IsWithin old start e = e ≡ old

-- the error is that the bytes are no text
abbrev pub IsNoText : List ℕ → TextError → Type 0
IsNoText bytes e = (is_utf8 bytes ≡ false) × (e ≡ failures.Json (errors.Text faults.NotUtf8 (place_in bytes (utf8_valid_len bytes))))

-- a beginning of the message was appended
abbrev pub BreaksOff : List ℕ → Option (List ℕ) → Option (List ℕ) → Type 0
BreaksOff message old new = (front : List ℕ) × (rest : List ℕ) × (message ≡ front ++ rest) × Appends old new front

-- the message of the text was appended
abbrev pub WritesText : Writing → List ℕ → Option (List ℕ) → Option (List ℕ) → Type 0
WritesText w text old new = (message : List ℕ) × IsMessageOf w text message × Appends old new message

-- why a text has no message: its fault, or that the message cannot be made
abbrev pub LacksMessage : Writing → List ℕ → TextError → Type 0
LacksMessage w text (failures.Json (errors.Text f p)) = IsErrorOf text text 0 (made w.strings (tokens text)) (errors.Text f p)
LacksMessage w text (failures.Json errors.OutOfMemory) = ⊤
LacksMessage w text (failures.Message e) = (message : List ℕ) × IsMessageOf w text message
LacksMessage w text (failures.Input e) = ⊥

-- why the text's message was not written, and what was
abbrev pub LeavesText : Writing → List ℕ → Option (List ℕ) → Option (List ℕ) → TextError → Type 0
LeavesText w text old new (failures.Json (errors.Text f p)) = IsFaultOf w text f p × Appends old new []
LeavesText w text old new (failures.Json errors.OutOfMemory) = Appends old new []
LeavesText w text old new (failures.Message e) = (message : List ℕ) × IsMessageOf w text message × BreaksOff message old new
LeavesText w text old new (failures.Input e) = ⊥

-- ---- several

-- the bytes are the messages of these texts, one behind the other
abbrev pub AreMessagesOf : Writing → List (List ℕ) → List ℕ → Type 0
AreMessagesOf w [] bytes = bytes ≡ []
AreMessagesOf w (text ∷ texts) bytes = (first : List ℕ) × (rest : List ℕ) × IsMessageOf w text first × AreMessagesOf w texts rest × (bytes ≡ first ++ rest)

-- messages of texts were appended, whole
abbrev pub WritesTexts : Writing → Option (List ℕ) → Option (List ℕ) → Type 0
WritesTexts w old new = (texts : List (List ℕ)) × (bytes : List ℕ) × AreMessagesOf w texts bytes × Appends old new bytes

-- messages of texts were appended, and perhaps a beginning of one more
abbrev pub WritesSome : Writing → Option (List ℕ) → Option (List ℕ) → Type 0
WritesSome w old new = (between : Option (List ℕ)) × WritesTexts w old between × (Appends between new [] ⊎ ((text : List ℕ) × (message : List ℕ) × IsMessageOf w text message × BreaksOff message between new))

-- an error, and what was written before it. A text that is not taken follows those whose messages were written
abbrev pub LeavesTexts : Writing → Option (List ℕ) → Option (List ℕ) → TextError → Type 0
LeavesTexts w old new (failures.Json (errors.Text f p)) = WritesTexts w old new × ((text : List ℕ) × (start : Place) × (q : Place) × IsFaultOf w text f q × (p ≡ around start q))
LeavesTexts w old new (failures.Json errors.OutOfMemory) = WritesTexts w old new
LeavesTexts w old new (failures.Message e) = WritesSome w old new
LeavesTexts w old new (failures.Input e) = WritesTexts w old new
