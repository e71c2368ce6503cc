-- The value that a JSON pointer leads to.
use Rattle.std.specs.Prelude.{◌≡◌, ◌==◌, ◌&&◌, ◌||◌, not, ◌^◌, ◌<◌, ℕ, ◌+◌, Bool, true, false, List, [], ◌∷◌, Option, Some, None, cond, option_and_then, slice_get}
use Rattle.std.specs.Borrow.{Bor}
use Rattle.std.specs.Fmt.{decimal}
use Rattle.bser_format.specs.SameTree.{same_bytes}
use Rattle.bser_format.specs.Tree.{Tree, array, object, Items, no_items, item, items}
use Rattle.bser_value.specs.Contents.{entry_under, as_array}

-- a byte before the first of these parts
abbrev pub before : ℕ → List (List ℕ) → List (List ℕ)
before b [] = (b ∷ []) ∷ []
before b (p ∷ ps) = (b ∷ p) ∷ ps

-- the parts of a text that stand between its slashes
abbrev pub between_slashes : List ℕ → List (List ℕ)
between_slashes [] = [] ∷ []
between_slashes (b ∷ s) = cond (b == 47) ([] ∷ between_slashes s) (before b (between_slashes s))

-- what is behind each slash of a path; one that is not empty begins with a slash
abbrev pub behind_slashes : List ℕ → Option (List (List ℕ))
behind_slashes [] = Some []
behind_slashes (b ∷ s) = cond (b == 47) (Some (between_slashes s)) None

-- a digit 0 or 1 comes first
abbrev pub has_digit_first : List ℕ → Bool
has_digit_first [] = false
has_digit_first (b ∷ s) = b == 48 || b == 49

-- behind each tilde stands a digit 0 or 1, so that it is an escape
abbrev pub has_only_escapes : List ℕ → Bool
has_only_escapes [] = true
has_only_escapes (b ∷ s) = (not (b == 126) || has_digit_first s) && has_only_escapes s

-- the tokens of a JSON pointer: what is behind each slash of a path whose tildes are escapes
abbrev pub tokens : List ℕ → Option (List (List ℕ))
tokens s = cond (has_only_escapes s) (behind_slashes s) None

-- a tilde and this digit stand for this byte
abbrev pub unescaped : ℕ → ℕ → List ℕ → List ℕ
unescaped digit byte [] = []
unescaped digit byte (b ∷ []) = b ∷ []
unescaped digit byte (b ∷ c ∷ s) = cond (b == 126 && c == digit) (byte ∷ unescaped digit byte s) (b ∷ unescaped digit byte (c ∷ s))

-- the text of a token: first `~1` stands for a slash, and then `~0` for a tilde
abbrev pub token_text : List ℕ → List ℕ
token_text s = unescaped 48 126 (unescaped 49 47 s)

-- the item whose index has this decimal text, of items that begin at index n
abbrev pub item_written : List ℕ → ℕ → Items → Option Tree
item_written s n no_items = None
item_written s n (item t ts) = cond (same_bytes s (decimal n)) (Some t) (item_written s (n + 1) ts)

-- the value that a token leads to: in an object by a key, and in an array by an index
abbrev pub child : List ℕ → Tree → Option Tree
child s (object es) = entry_under (token_text s) es
child s (array ts) = item_written s 0 ts
child s _ = None

-- the value that tokens lead to, one after the other
abbrev pub descendant : List (List ℕ) → Tree → Option Tree
descendant [] u = Some u
descendant (s ∷ ss) u = option_and_then (descendant ss) (child s u)

-- the value that a JSON pointer leads to; a path that is none leads nowhere
abbrev pub pointed : List ℕ → Tree → Option Tree
pointed path u = option_and_then (λ ss. descendant ss u) (tokens path)

-- the item at this place of an array
abbrev pub item_there : ℕ → Tree → Option Tree
item_there n u = option_and_then (λ ts. slice_get (items ts) n) (as_array u)

-- the first byte of a token's text, and the token behind it
abbrev pub BeginsText : List ℕ → Option (ℕ × Bor (List ℕ)) → Type 0
BeginsText s None = token_text s ≡ []
BeginsText s (Some r) = token_text s ≡ r.0 ∷ token_text r.1.now

-- no plus comes first, and no zero before other bytes
abbrev pub is_plain : List ℕ → Bool
is_plain [] = true
is_plain (b ∷ []) = not (b == 43)
is_plain (b ∷ c ∷ s) = not (b == 43 || b == 48)

-- the index of 64 bits whose decimal text this is, or none below this one has it
abbrev pub ReadsIndex : List ℕ → ℕ → Option ℕ → Type 0
ReadsIndex s len (Some n) = (s ≡ decimal n) × (n < 2 ^ 64)
ReadsIndex s len None = (n : ℕ) → n < len → s ≡ decimal n → ⊥
