-- The size that a search found.
use Rattle.std.specs.Prelude.{◌≡◌, ℕ, ℤ, true, List, ◌++◌, codes, Option, Some}
use Rattle.serde_bser.specs.Events as events
use Rattle.serde_bser.specs.Events.{Event}
use Rattle.serde_bser.specs.Grammar.{SpellsInteger, SpellsKey}
use Rattle.example_use.specs.declared.find.Search.{Search}

-- the key "size"
abbrev pub IsSizeKey : Event → Type 0
IsSizeKey e = e ≡ events.key (codes "size")

-- an event was taken: an integer is next only behind such a key
abbrev pub goes_on : Search → Event → Search → Type 0
goes_on before e after = (after.is_next ≡ true) → IsSizeKey e

-- the event is the integer behind such a key
abbrev pub has_found : Search → Event → Search → Type 0
has_found before e after = (n : ℤ) × (before.is_next ≡ true) × (e ≡ events.integer n) × (after.found ≡ Some n)

-- such a key is in the bytes, and right behind it the integer
pub record Finds (bytes : List ℕ) (n : ℤ) : Type 0 where
  pub before : List ℕ
  pub key : List ℕ
  pub value : List ℕ
  pub rest : List ℕ
  pub whole : bytes ≡ before ++ (key ++ (value ++ rest))
  pub is_key : SpellsKey (codes "size") key
  pub is_value : SpellsInteger n value
