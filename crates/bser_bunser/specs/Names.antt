-- Which error is answered, and when another may take its place.
use Rattle.std.specs.Prelude.{◌≡◌, ◌≢◌, ◌⊎◌, ◌≤◌, ◌<◌, ◌+◌, ◌^◌, ℕ, ℤ, suc, true, false, List, [], ◌∷◌, ◌++◌, length, Some}
use Rattle.std.specs.Int.{byte_len}
use Rattle.bser_format.specs.Grammar.{Format, IntSize, tag_of, width_of}
use Rattle.bser_format.specs.declared.errors.Error.{Error}
use Rattle.bser_format.specs.declared.errors.Error.TheVariants.{DeReaderError, OutOfMemory}
use Rattle.bser_format.specs.declared.errors.ReadCause.TheVariants.{Reader, Failed}
use Rattle.bser_format.specs.declared.errors.Complaint.{Complaint}
use Rattle.bser_format.specs.declared.errors.Complaint.TheVariants.{NegativeLength}
use Rattle.bser_format.specs.Named as named
use Rattle.bser_format.specs.Named.{◌>>=◌}
use Rattle.bser_source.specs.Window.{Window, left}
use Rattle.bser_bunser.specs.Refusal.{Fails, ShortOf}

-- bytes that may be those left: those buffered, and then what is known of the others
pub record MayBeLeft (s : Window) (b : List ℕ) : Type 0 where
  pub more : List ℕ
  pub whole : b ≡ s.buffered ++ more
  pub known : (rest : List ℕ) → s.beyond ≡ Some rest → more ≡ rest

-- as far as both go they are the same bytes
abbrev pub Agree : List ℕ → List ℕ → Type 0
Agree xs ys = (x : List ℕ) × (y : List ℕ) × (xs ++ x ≡ ys ++ y)

-- bytes that may come: those buffered, and then such as agree with what is known of the others
pub record MayCome (s : Window) (b : List ℕ) : Type 0 where
  pub more : List ℕ
  pub whole : b ≡ s.buffered ++ more
  pub known : (rest : List ℕ) → s.beyond ≡ Some rest → Agree more rest

-- what some bytes are to blame for, by this name
abbrev pub Blame : Type 1
Blame = Error → List ℕ → Type 0

-- bytes that may come are too few, and with one more there are 2^64 since the start
pub record Overflows (P : Blame) (s : Window) : Type 0 where
  pub text : List ℕ
  pub comes : MayCome s text
  pub few : P named.eof text
  pub long : 2 ^ 64 ≤ suc (s.count + length text)

-- an error that the bytes left are not to blame for, where there is a reason for it
abbrev pub Outside : Blame → Error → Window → Type 0
Outside P OutOfMemory s = s.lends ≡ false
Outside P (DeReaderError (Reader fault)) s = s.lends ≡ false
Outside P (DeReaderError Failed) s = (s.failed ≡ true) ⊎ ((s.lends ≡ false) × Overflows P s)
Outside P _ s = ⊥

-- the same, where the bytes wanted are at the start, n of them
abbrev pub Excused : ℕ → Error → Window → Type 0
Excused n OutOfMemory s = s.lends ≡ false
Excused n (DeReaderError (Reader fault)) s = s.lends ≡ false
Excused n (DeReaderError Failed) s = (s.failed ≡ true) ⊎ ((s.lends ≡ false) × (2 ^ 64 ≤ s.count + n))
Excused n _ s = ⊥

-- the bytes that may be left are to blame in this way, or nothing of them is
abbrev pub Blames : Blame → Error → Window → Type 0
Blames P e s = ((b : List ℕ) × MayBeLeft s b × P e b) ⊎ Outside P e s

-- the plain reader gives this error on such bytes
abbrev pub RefusedAs : {X : Type 0} → named.Reader X → Blame
RefusedAs r e b = r b ≡ named.refuses e

-- the plain reader gives this error on what is left, or there is a reason outside the bytes
abbrev pub Names : {X : Type 0} → named.Reader X → Error → Window → Type 0
Names r e s = Blames (RefusedAs r) e s

-- the same, or memory ran out
abbrev pub NamesOrMemory : {X : Type 0} → named.Reader X → Error → Window → Type 0
NamesOrMemory r e s = Names r e s ⊎ (e ≡ OutOfMemory)

-- where the bytes left begin as F says, r gives no error but for a reason outside them
abbrev pub Excuses : {X : Type 0} → Format → named.Reader X → Type 0
Excuses F r =
    (text rest : List ℕ) (e : Error) (s : Window)
    → F text → left s ≡ Some (text ++ rest) → Names r e s → Excused (length text) e s

-- an integer's tag, and fewer bytes than its number has
pub record CutNumber (b : List ℕ) : Type 0 where
  pub size : IntSize
  pub rest : List ℕ
  pub whole : b ≡ tag_of size ∷ rest
  pub fewer : length rest < byte_len (width_of size)

-- the beginning of an integer, and not the whole of one
abbrev pub IsCutInteger : List ℕ → Type 0
IsCutInteger b = (b ≡ []) ⊎ CutNumber b

-- an integer is cut short
abbrev pub CutsInteger : Error → Window → Type 0
CutsInteger e s = Blames (λ f b. IsCutInteger b × (f ≡ named.eof)) e s

-- an integer of 0 or more, with this complaint of another
abbrev pub natural_of : Complaint → named.Reader ℕ
natural_of c = named.int >>= named.natural c

-- the bytes after a length
abbrev pub bytes_after : ℤ → named.Reader (List ℕ)
bytes_after len = named.natural NegativeLength len >>= named.front

-- a call that only wants n bytes fails: as its byte source does, with the first error, and never
-- out of memory
pub record RefusesShort (n : ℕ) (e : Error) (old new : Window) : Type 0 where
  pub err : ShortOf n e old new
  pub names : Names (named.front n) e old
  pub memory : e ≢ OutOfMemory

-- a call fails with the error that r gives, and never out of memory
pub record RefusesBy {X : Type 0} (r : named.Reader X) (e : Error) (old new : Window) : Type 0 where
  pub err : Fails e old new
  pub names : Names r e old
  pub memory : e ≢ OutOfMemory
