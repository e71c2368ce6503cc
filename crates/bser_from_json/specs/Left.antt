-- What the tokens that are left come to.
use Rattle.std.specs.Prelude.{◌≡◌, ℕ, suc, ◌+◌, List, [], ◌∷◌, length, Bool, true, false, Result, Ok, Err, Vec, ⊤}
use Rattle.std.specs.declared.alloc.Global.{Global}
use Rattle.json.specs.Token as tokens
use Rattle.json.specs.Reads.{token_of}
use Rattle.json.specs.declared.token.Token.{Token}
use Rattle.bser_format.specs.Tree.{Tree}
use Rattle.bser_value.specs.ValueView.{tree_of}
use Rattle.bser_value.specs.declared.value.Value.{Value}
use Rattle.bser_from_json.specs.declared.reading.Strings.{Strings}
use Rattle.bser_from_json.specs.declared.tokens.TokenError.{TokenError}
use Rattle.bser_from_json.specs.declared.tokens.TokenError.TheVariants as refusals
use Rattle.bser_from_json.specs.declared.tokens.Tokens.{Tokens}
use Rattle.bser_from_json.specs.Bodies.{Follows}
use Rattle.bser_from_json.specs.Made.{Around, Due, Step, Outcome, refuses, lacks, breaks, follow, is_bad, most_levels, nothing, put, run}

-- what is due comes to this with the tokens that are left
abbrev pub due_to : Strings → Tokens → Due → Outcome
due_to s left d = run s left.taken d left.reader

-- the same behind what the token did that was taken last
abbrev pub step_to : Strings → Tokens → Step → Outcome
step_to s left step = follow left.taken step (due_to s left)

-- the refusal is the outcome. There may always be no memory
abbrev pub IsRefused : Outcome → TokenError → Type 0
IsRefused o (refusals.At f n) = o ≡ refuses f n
IsRefused o (refusals.Lacks n) = o ≡ lacks n
IsRefused o (refusals.Breaks n) = o ≡ breaks n
IsRefused o refusals.OutOfMemory = ⊤

-- the body of a tree was put behind the bytes, and with it the outcome is this; or the outcome is the refusal
abbrev pub ComesTo : Outcome → (Tree → Outcome) → List ℕ → Result (Vec ℕ Global) TokenError → Type 0
ComesTo o then bytes (Ok all) = (t : Tree) × Follows bytes all.items t × (o ≡ then t)
ComesTo o then bytes (Err e) = IsRefused o e

-- inside of any such containers the tree is put, whose body was put behind the bytes, or the outcome is the refusal
abbrev pub ComesWhere : (List Around → Type 0) → Strings → (List Around → Outcome) → Tokens → List ℕ → Result (Vec ℕ Global) TokenError → Type 0
ComesWhere may s from left bytes (Ok all) = (t : Tree) × Follows bytes all.items t × ((os : List Around) → may os → from os ≡ due_to s left (put t os))
ComesWhere may s from left bytes (Err e) = (os : List Around) → may os → IsRefused (from os) e

-- the same inside of containers that leave so many levels
abbrev pub ComesInside : ℕ → Strings → (List Around → Outcome) → Tokens → List ℕ → Result (Vec ℕ Global) TokenError → Type 0
ComesInside levels = ComesWhere (λ os. length os + levels ≡ most_levels)

-- behind the token that was taken last, a value is put inside of these containers, or the outcome is the refusal
abbrev pub IsPut : Strings → Tokens → List Around → Step → Result Value TokenError → Type 0
IsPut s left os step (Ok v) = step_to s left step ≡ due_to s left (put (tree_of v) os)
IsPut s left os step (Err e) = IsRefused (step_to s left step) e

-- no token comes next: none is left, or the text has none there
abbrev pub LacksToken : List tokens.Token → Type 0
LacksToken [] = ⊤
LacksToken (t ∷ ts) = is_bad t ≡ true

-- the next token was taken, or there is none
abbrev pub Takes : Tokens → Tokens → Result Token TokenError → Type 0
Takes old new (Ok t) = (old.reader ≡ token_of t ∷ new.reader) × (is_bad (token_of t) ≡ false) × (new.taken ≡ suc old.taken)
Takes old new (Err e) = (e ≡ refusals.Lacks old.taken) × LacksToken old.reader

-- no token follows a value that is made, or it is refused
abbrev pub EndsThere : Tokens → Result (Unit {0}) TokenError → Type 0
EndsThere old (Ok v) = old.reader ≡ []
EndsThere old (Err e) = (s : Strings) (u : Tree) → IsRefused (due_to s old (nothing u)) e

-- whether the token opens a container
abbrev pub opens : tokens.Token → Bool
opens tokens.begin_array = true
opens tokens.begin_object = true
opens _ = false
