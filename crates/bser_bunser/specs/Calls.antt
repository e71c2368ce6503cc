-- What a call comes to, by what callers see of the reader before and after it.
use Rattle.std.specs.Prelude.{◌≡◌, ℕ, length, ◌-◌, ◌^◌, ℤ, pos, List, min}
use Rattle.std.specs.Int.{Width}
use Rattle.bser_format.specs.declared.errors.Error.{Error}
use Rattle.bser_format.specs.Named.{Reader, front}
use Rattle.bser_source.specs.Window.{Filled, Took, closed}
use Rattle.bser_source.specs.Refs.{bytes_of}
use Rattle.bser_source.specs.declared.reference.Reference.{Reference}
use Rattle.bser_bunser.specs.Names.{Names, NamesOrMemory, CutsInteger, RefusesShort, RefusesBy}
use Rattle.bser_bunser.specs.Faults.{StopsInPlace}
use Rattle.bser_bunser.specs.Refusal.{Fails, ShortOf, CopyRefused}
use Rattle.bser_bunser.specs.Seen.{Seen}
use Rattle.bser_bunser.specs.Tagged.{TookNumber, TookBits, TookInt, LooksForInt, TookToken, TookSome, TookCounted, TookHead}
use Rattle.bser_bunser.specs.declared.bunser.pdu.PduInfo.{PduInfo}
use Rattle.bser_bunser.specs.declared.prefix.Look.{Look}
use Rattle.bser_bunser.specs.declared.prefix.Token.{Token}

-- how many bytes were taken, at most 2^63 - 1
abbrev pub bytes_taken : Seen → ℤ
bytes_taken s = pos (min s.window.count (2 ^ 63 - 1))

-- ---- what was taken

-- n bytes are buffered
abbrev pub Buffers : ℕ → Seen → Seen → Type 0
Buffers n old new = Filled n old.window new.window

-- these bytes were taken
abbrev pub Takes : List ℕ → Seen → Seen → Type 0
Takes bs old new = Took old.window new.window bs

-- so many bytes were taken
abbrev pub TakesSome : ℕ → Seen → Seen → Type 0
TakesSome n old new = TookSome n old.window new.window

-- a byte was taken, and then this number in as many bytes
abbrev pub TakesNumber : Width → ℤ → Seen → Seen → Type 0
TakesNumber w v old new = TookNumber w old.window new.window v

-- a byte was taken, and then the eight bytes of this number
abbrev pub TakesBits : ℕ → Seen → Seen → Type 0
TakesBits n old new = TookBits old.window new.window n

-- this integer was taken
abbrev pub TakesInt : ℤ → Seen → Seen → Type 0
TakesInt v old new = TookInt old.window new.window v

-- an integer was taken, or there is none
abbrev pub LooksFor : Look ℤ → Seen → Seen → Type 0
LooksFor l old new = LooksForInt old.window new.window l

-- this token was taken
abbrev pub TakesToken : Token → Seen → Seen → Type 0
TakesToken t old new = TookToken old.window new.window t

-- the bytes of this reference were taken
abbrev pub TakesLent : {L : Type 0} → (L → List ℕ) → Seen → Seen → Reference L → Type 0
TakesLent bytes old new r = Took old.window new.window (bytes_of bytes r)

-- this reference has n bytes
abbrev pub HasLength : {L : Type 0} → (L → List ℕ) → ℕ → Reference L → Type 0
HasLength bytes n r = length (bytes_of bytes r) ≡ n

-- a string's length was taken, and these bytes of it
abbrev pub TakesCounted : List ℕ → Seen → Seen → Type 0
TakesCounted s old new = TookCounted old.window new.window s

-- this header of a message was taken, and its body's length was announced
abbrev pub TakesHead : PduInfo → Seen → Seen → Type 0
TakesHead info old new = TookHead old.window new.window info.bser_capabilities info.len

-- the reason that is kept stays
abbrev pub Keeps : Seen → Seen → Type 0
Keeps old new = new.refusal ≡ old.refusal

-- ---- what failed, with the error that is kept

-- nothing is buffered, and all that comes fails
abbrev pub Closes : Seen → Seen → Type 0
Closes old new = new.window ≡ closed old.window

-- all that comes fails
abbrev pub HasFailed : Seen → Seen → Type 0
HasFailed old new = Fails new.refusal old.window new.window

-- n bytes are not there
abbrev pub LacksBytes : ℕ → Seen → Seen → Type 0
LacksBytes n old new = ShortOf n new.refusal old.window new.window

-- n bytes are not there, or no memory for them
abbrev pub LacksCopy : ℕ → Seen → Seen → Type 0
LacksCopy n old new = CopyRefused n new.refusal old.window new.window

-- the name that r gives
abbrev pub NamedBy : {X : Type 0} → Reader X → Seen → Seen → Type 0
NamedBy r old new = Names r new.refusal old.window

-- the error of what n bytes lack, or out of memory
abbrev pub NamesCopy : ℕ → Seen → Seen → Type 0
NamesCopy n old new = NamesOrMemory (front n) new.refusal old.window

-- the error that r gives, or out of memory
abbrev pub NamedOrMemory : {X : Type 0} → Reader X → Seen → Seen → Type 0
NamedOrMemory r old new = NamesOrMemory r new.refusal old.window

-- an integer is cut short
abbrev pub IsCutShort : Seen → Seen → Type 0
IsCutShort old new = CutsInteger new.refusal old.window

-- n bytes are not there, and it is never out of memory
abbrev pub FailsShort : ℕ → Seen → Seen → Type 0
FailsShort n old new = RefusesShort n new.refusal old.window new.window

-- with the error that r gives, and never out of memory
abbrev pub FailsBy : {X : Type 0} → Reader X → Seen → Seen → Type 0
FailsBy r old new = RefusesBy r new.refusal old.window new.window

-- the place of a byte that may not be there is before it, and of an integer below 0 behind it
abbrev pub FailsInPlace : Seen → Seen → Type 0
FailsInPlace old new = StopsInPlace new.refusal old.window new.window

-- ---- what failed, with the error that is answered

abbrev pub AnswersInPlace : Seen → Seen → Error → Type 0
AnswersInPlace old new e = StopsInPlace e old.window new.window

-- n bytes are not there, and it is never out of memory
abbrev pub AnswersShort : ℕ → Seen → Seen → Error → Type 0
AnswersShort n old new e = RefusesShort n e old.window new.window

-- with the error that r gives, and never out of memory
abbrev pub AnswersBy : {X : Type 0} → Reader X → Seen → Seen → Error → Type 0
AnswersBy r old new e = RefusesBy r e old.window new.window
