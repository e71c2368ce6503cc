-- JSON texts that are put token by token.
use Rattle.std.specs.Prelude.{◌≡◌, ℕ, List, [], ◌++◌, Bool, Option}
use Rattle.std.specs.Io.KnownBytes.{Appends}
use Rattle.json.specs.Layout as lasts
use Rattle.json.specs.Layout.{gap, pretty, state_after}
use Rattle.json.specs.Print.{print}
use Rattle.json.specs.Token as tokens
use Rattle.bser_json.specs.declared.printing.Last.{Last}
use Rattle.bser_json.specs.declared.printing.Last.TheVariants as put
use Rattle.bser_json.specs.declared.printing.Layout.{Layout}
use Rattle.bser_json.specs.declared.printing.Layout.TheVariants as layouts
use Rattle.bser_json.specs.declared.printing.Printing.{Printing}

-- the text of tokens in this layout
abbrev pub laid_out : Layout → List tokens.Token → List ℕ
laid_out layouts.Line ts = print ts
laid_out layouts.Pretty ts = pretty ts

-- what stands before a token in this layout, behind its comma: nothing on one line
abbrev pub gap_in : Layout → lasts.Last → Bool → ℕ → List ℕ
gap_in layouts.Line last opens depth = []
gap_in layouts.Pretty last opens depth = gap last opens depth

-- what was put last
abbrev pub last_of : Last → lasts.Last
last_of put.Nothing = lasts.nothing
last_of put.Bracket = lasts.bracket
last_of put.Key = lasts.name
last_of put.Value = lasts.value

-- these tokens were put in this layout, and nothing else, since the writer held these bytes: their
-- text is what was written since then, and what is kept
pub record Prints {W : Type 0} (contents : W → Option (List ℕ)) (start : Option (List ℕ)) (layout : Layout) (ts : List tokens.Token) (p : Printing W) : Type 0 where
  pub written : List ℕ
  pub same : p.layout ≡ layout
  pub text : laid_out layout ts ≡ written ++ p.text.items
  pub state : (last_of p.last, p.depth) ≡ state_after ts
  pub appended : Appends start (contents p.out) written

-- these tokens were put behind those before them
abbrev pub Puts : {W : Type 0} → (W → Option (List ℕ)) → List tokens.Token → Printing W → Printing W → Type 0
Puts contents more old new =
    (start : Option (List ℕ)) (layout : Layout) (ts : List tokens.Token)
    → Prints contents start layout ts old → Prints contents start layout (ts ++ more) new

-- what was put stays, and some first bytes of what was kept were written
pub record WritesKept {W : Type 0} (contents : W → Option (List ℕ)) (old new : Printing W) : Type 0 where
  pub written : List ℕ
  pub text : old.text.items ≡ written ++ new.text.items
  pub appended : Appends (contents old.out) (contents new.out) written
  pub layout : new.layout ≡ old.layout
  pub last : new.last ≡ old.last
  pub depth : new.depth ≡ old.depth
