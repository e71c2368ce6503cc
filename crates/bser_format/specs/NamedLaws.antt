-- What the plain reader with names has to do with the grammar.
use Rattle.std.specs.Prelude.{◌≡◌, ◌↔◌, ◌<◌, ℕ, true, List, ◌++◌}
use Rattle.std.specs.List.{AllByRecursion}
use Rattle.bser_format.specs.Tree.{Tree}
use Rattle.bser_format.specs.Expand.{expand}
use Rattle.bser_format.specs.ReadsAny.{has_utf8_keys}
use Rattle.bser_format.specs.Grammar.{Spells}
use Rattle.bser_format.specs.declared.errors.Error.{Error}
use Rattle.bser_format.specs.Message.{IsMessage}
use Rattle.bser_format.specs.Named.{any, with_text_keys, message, reads, refuses}

-- a tree is read exactly where a prefix of the bytes spells it
abbrev pub ReadsWhatIsSpelled : Type 0
ReadsWhatIsSpelled = (n : ℕ) (b y : List ℕ) (t : Tree) → AllByRecursion (λ x. x < 256) b → (any n b ≡ reads t y) ↔ ((a : List ℕ) × (b ≡ a ++ y) × Spells n t a)

-- there is an error exactly where no prefix of the bytes spells a tree
abbrev pub RefusesTheRest : Type 0
RefusesTheRest = (n : ℕ) (b : List ℕ) → AllByRecursion (λ x. x < 256) b → ((e : Error) × (any n b ≡ refuses e)) ↔ ((a y : List ℕ) (t : Tree) → b ≡ a ++ y → Spells n t a → ⊥)

-- a message is read exactly where a prefix of the bytes is one
abbrev pub ReadsMessages : Type 0
ReadsMessages = (n c : ℕ) (b y : List ℕ) (t : Tree) → AllByRecursion (λ x. x < 256) b → (message (any n) b ≡ reads (c, t) y) ↔ ((a : List ℕ) × (b ≡ a ++ y) × IsMessage n c t a)

-- ---- keys in UTF-8

-- each key of each object is UTF-8, those of a template's rows too
abbrev pub HasTextKeys : Tree → Type 0
HasTextKeys t = has_utf8_keys (expand t) ≡ true

-- a tree is read exactly where a prefix of the bytes spells it and all its keys are UTF-8
abbrev pub ReadsTextKeys : Type 0
ReadsTextKeys = (n : ℕ) (b y : List ℕ) (t : Tree) → AllByRecursion (λ x. x < 256) b → (with_text_keys n b ≡ reads t y) ↔ ((a : List ℕ) × (b ≡ a ++ y) × Spells n t a × HasTextKeys t)

-- there is an error exactly where no prefix of the bytes spells a tree all of whose keys are UTF-8
abbrev pub RefusesOtherKeys : Type 0
RefusesOtherKeys = (n : ℕ) (b : List ℕ) → AllByRecursion (λ x. x < 256) b → ((e : Error) × (with_text_keys n b ≡ refuses e)) ↔ ((a y : List ℕ) (t : Tree) → b ≡ a ++ y → Spells n t a → HasTextKeys t → ⊥)

-- a message is read exactly where a prefix of the bytes is one and all keys of its tree are UTF-8
abbrev pub ReadsTextKeyMessages : Type 0
ReadsTextKeyMessages = (n c : ℕ) (b y : List ℕ) (t : Tree) → AllByRecursion (λ x. x < 256) b → (message (with_text_keys n) b ≡ reads (c, t) y) ↔ ((a : List ℕ) × (b ≡ a ++ y) × IsMessage n c t a × HasTextKeys t)

-- there is an error exactly where no prefix of the bytes is a message all of whose keys are UTF-8
abbrev pub RefusesOtherMessages : Type 0
RefusesOtherMessages = (n : ℕ) (b : List ℕ) → AllByRecursion (λ x. x < 256) b → ((e : Error) × (message (with_text_keys n) b ≡ refuses e)) ↔ ((a y : List ℕ) (c : ℕ) (t : Tree) → b ≡ a ++ y → IsMessage n c t a → HasTextKeys t → ⊥)
