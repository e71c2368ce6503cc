-- A string of a JSON text that is put in parts.
use Rattle.std.specs.Prelude.{◌≡◌, ℕ, List, [], ◌∷◌, ◌++◌, Option}
use Rattle.std.specs.Io.KnownBytes.{Appends}
use Rattle.json.specs.Layout.{state_after}
use Rattle.json.specs.Print.{escape}
use Rattle.json.specs.Token as tokens
use Rattle.bser_json.specs.Printed.{Prints, laid_out, last_of}
use Rattle.bser_json.specs.declared.printing.Layout.{Layout}
use Rattle.bser_json.specs.declared.printing.Printing.{Printing}

-- these tokens, and a string behind them
abbrev pub with_string : List tokens.Token → List ℕ → List tokens.Token
with_string ts s = ts ++ tokens.string s ∷ []

-- behind these tokens a string was begun in this layout, of which this part was put: the text of the
-- tokens and of any string that begins so is what was written, what is kept, and the string's rest
pub record PrintsPart {W : Type 0} (contents : W → Option (List ℕ)) (start : Option (List ℕ)) (layout : Layout) (ts : List tokens.Token) (part : List ℕ) (p : Printing W) : Type 0 where
  pub written : List ℕ
  pub same : p.layout ≡ layout
  pub text : (rest : List ℕ) → laid_out layout (with_string ts (part ++ rest)) ≡ written ++ (p.text.items ++ (escape rest ++ 34 ∷ []))
  pub state : (s : List ℕ) → (last_of p.last, p.depth) ≡ state_after (with_string ts s)
  pub appended : Appends start (contents p.out) written

-- a string was begun behind the tokens before it
abbrev pub BeginsString : {W : Type 0} → (W → Option (List ℕ)) → Printing W → Printing W → Type 0
BeginsString contents old new =
    (start : Option (List ℕ)) (layout : Layout) (ts : List tokens.Token)
    → Prints contents start layout ts old → PrintsPart contents start layout ts [] new

-- the string goes on with these bytes
abbrev pub AddsPart : {W : Type 0} → (W → Option (List ℕ)) → List ℕ → Printing W → Printing W → Type 0
AddsPart contents more old new =
    (start : Option (List ℕ)) (layout : Layout) (ts : List tokens.Token) (part : List ℕ)
    → PrintsPart contents start layout ts part old → PrintsPart contents start layout ts (part ++ more) new

-- the string ended, and was put as a token
abbrev pub EndsString : {W : Type 0} → (W → Option (List ℕ)) → Printing W → Printing W → Type 0
EndsString contents old new =
    (start : Option (List ℕ)) (layout : Layout) (ts : List tokens.Token) (part : List ℕ)
    → PrintsPart contents start layout ts part old → Prints contents start layout (with_string ts part) new
