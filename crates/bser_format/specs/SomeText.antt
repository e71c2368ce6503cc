-- What is written where any of several texts will do.
use Rattle.std.specs.Prelude.{◌≡◌, ℕ, List, ◌++◌, Result, IsOk}
use Rattle.std.specs.Fmt.{IsPlainFormatter, HasWritten}
use Rattle.std.specs.declared.fmt.Error.{Error}
use Rattle.std.specs.declared.fmt.Formatter.{Formatter}

-- this text and no other
abbrev pub Exactly : List ℕ → List ℕ → Type 0
Exactly a s = s ≡ a

-- such a text, and behind it such another
infixr 65 ◌followed_by◌
abbrev pub ◌followed_by◌ : (List ℕ → Type 0) → (List ℕ → Type 0) → List ℕ → Type 0
◌followed_by◌ P Q s = (a : List ℕ) × (b : List ℕ) × P a × Q b × (s ≡ a ++ b)

-- g is f after writing such a text, and is still plain
abbrev pub HasWrittenSome : {W : Type 0} → (W → List ℕ → W → Type 0) → Formatter W → (List ℕ → Type 0) → Formatter W → Type 0
HasWrittenSome took f P g = (s : List ℕ) × P s × HasWritten took f s g

-- if f is plain and r is `Ok`, then g is f after writing such a text
abbrev pub WritesSomeOnOk : {W : Type 0} → (W → List ℕ → W → Type 0) → Formatter W → Result (Unit {0}) Error → (List ℕ → Type 0) → Formatter W → Type 0
WritesSomeOnOk took f r P g = IsPlainFormatter f → IsOk r → HasWrittenSome took f P g
