-- What is left of a walk: the bytes that it has not gone past, as the containers that are open read them.
use Rattle.std.specs.Prelude.{◌≡◌, ◌<◌, ◌≤◌, ℕ, ◌+◌, List, [], ◌∷◌, take, length}
use Rattle.bser_format.specs.Named.{many, text_of, entry_of, field_of, with_text_keys}
use Rattle.bser_format.specs.declared.errors.Kind.TheVariants.{MapKey}
use Rattle.bser_events.specs.Takes.{Takes}
use Rattle.bser_serde_format.specs.declared.open.Form.{Form}
use Rattle.bser_serde_format.specs.declared.open.Form.TheVariants.{Array, Object, Rows, Row}
use Rattle.bser_serde_format.specs.declared.open.Open.{Open}
use Rattle.bser_serde_format.specs.declared.walk.Walk.{Walk}

-- a value of at most n levels stands before the rest; a field of a row may be missing
abbrev pub TakesOne : Form → ℕ → List ℕ → List ℕ → Type 0
TakesOne Array n = Takes (with_text_keys n)
TakesOne Object n = Takes (with_text_keys n)
TakesOne Rows n = Takes (field_of (with_text_keys n))
TakesOne Row n = Takes (field_of (with_text_keys n))

-- k of them do
abbrev pub TakesValues : Form → ℕ → ℕ → List ℕ → List ℕ → Type 0
TakesValues Array n k = Takes (many (with_text_keys n) k)
TakesValues Object n k = Takes (many (with_text_keys n) k)
TakesValues Rows n k = Takes (many (field_of (with_text_keys n)) k)
TakesValues Row n k = Takes (many (field_of (with_text_keys n)) k)

-- k entries of an object do, or k rows of w fields; an array has no such parts
abbrev pub TakesMore : Form → ℕ → ℕ → ℕ → List ℕ → List ℕ → Type 0
TakesMore Array n w k b rest = b ≡ rest
TakesMore Object n w k b rest = Takes (many (entry_of (text_of MapKey) (with_text_keys n)) k) b rest
TakesMore Rows n w k b rest = Takes (many (many (field_of (with_text_keys n)) w) k) b rest
TakesMore Row n w k b rest = Takes (many (many (field_of (with_text_keys n)) w) k) b rest

-- what is left of a container stands before the rest
pub record Leaves (o : Open) (b rest : List ℕ) : Type 0 where
  pub middle : List ℕ
  pub values : TakesValues o.form o.levels (o.left + o.held) b middle
  pub more : TakesMore o.form o.levels o.width o.more middle rest

-- nothing is left of it
pub record IsSpent (o : Open) : Type 0 where
  pub left : o.left ≡ 0
  pub held : o.held ≡ 0
  pub more : o.more ≡ 0

-- a row comes
pub record IsAtRow (o : Open) : Type 0 where
  pub form : o.form ≡ Rows
  pub none : o.left ≡ 0
  pub some : 0 < o.more

-- what is left of these containers does, the last of which is the innermost
abbrev pub LeavesAll : List Open → List ℕ → List ℕ → Type 0
LeavesAll [] b rest = b ≡ rest
LeavesAll (o ∷ os) b rest = (middle : List ℕ) × LeavesAll os b middle × Leaves o middle rest

-- what is left of a container and of those around it stands before the rest
pub record LeavesIn (o : Open) (os : List Open) (b rest : List ℕ) : Type 0 where
  pub middle : List ℕ
  pub inside : Leaves o b middle
  pub around : LeavesAll os middle rest

-- what is left of all that is open does
abbrev pub Remains : Walk → List ℕ → Type 0
Remains w rest = LeavesIn w.inner w.outer.items w.rest.now rest

-- the same containers around the innermost one are not closed
pub record Floors (a b : Walk) : Type 0 where
  pub same : b.floor ≡ a.floor
  pub within : a.floor ≤ length a.outer.items → a.floor ≤ length b.outer.items
  pub kept : a.floor ≤ length a.outer.items → take a.floor b.outer.items ≡ take a.floor a.outer.items

-- what was gone past, and what is left then, is what was left before
pub record Steps (a b : Walk) : Type 0 where
  pub onward : (rest : List ℕ) → Remains b rest → Remains a rest
  pub floors : Floors a b

-- before a value of at most n levels, which these bytes begin with
pub record Starts (n : ℕ) (bytes : List ℕ) (w : Walk) : Type 0 where
  pub floor : w.floor ≡ 0
  pub value : (rest : List ℕ) → Remains w rest → Takes (with_text_keys n) bytes rest
