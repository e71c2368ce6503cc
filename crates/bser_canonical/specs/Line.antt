-- A line for the user.
use Rattle.std.specs.Prelude.{◌≡◌, ℕ, List, [], ◌∷◌, ◌++◌, ◌⊎◌, codes}
use Rattle.bser_source.specs.Device.{Blamed}
use Rattle.bser_ser.specs.Stopped.{Tells}

-- the line where an argument is not known
abbrev pub unknown_argument : List ℕ
unknown_argument = codes "bser_canon: unknown argument" ++ 10 ∷ []

-- a writer took a beginning of the line, and all of it unless it failed
pub record PutsLine {S : Type 0} (sink : Tells S) (line : List ℕ) (old new : S) : Type 0 where
  pub front : List ℕ
  pub rest : List ℕ
  pub is : line ≡ front ++ rest
  pub took_it : sink.took old new front
  pub whole : (rest ≡ []) ⊎ Blamed (sink.failures old) (sink.failures new)

-- a line of this program: its name, a text, and the line's end
abbrev pub IsReport : List ℕ → Type 0
IsReport line = (text : List ℕ) × (line ≡ codes "bser_canon: " ++ text ++ 10 ∷ [])

-- a writer took a beginning of a line of this program, and all of it unless it failed
pub record PutsReport {S : Type 0} (sink : Tells S) (old new : S) : Type 0 where
  pub line : List ℕ
  pub report : IsReport line
  pub put : PutsLine sink line old new
