-- The keys of templates, as they are kept of a source that lends.
use Rattle.std.specs.Prelude.{ℕ, List, Vec, map}
use Rattle.std.specs.declared.alloc.Global.{Global}
use Rattle.bser_format.specs.Grammar.{SpellsKey}
use Rattle.bser_source.specs.declared.lending.Lending as lending
use Rattle.bser_bunser.specs.Seen.{Seen}
use Rattle.bser_deserializer.specs.Templates.{TakesPart, SpellsKeys, SpellsKeysAndRows}

-- over what a source lends, and what is kept of that
module _ {L K : Type 0} (lent : lending.Ghosts L K) where
  -- the bytes of a kept key
  abbrev pub kept_key : K → List ℕ
  kept_key key = lent.kept key

  -- the bytes of each kept key
  abbrev pub kept_keys : Vec K Global → List (List ℕ)
  kept_keys keys = map lent.kept keys.items

  -- a template's key was taken and is kept
  abbrev pub TakesKey : Seen → Seen → K → Type 0
  TakesKey old new key = TakesPart (SpellsKey (kept_key key)) old new

  -- a template's keys were taken after their number, and are kept
  abbrev pub TakesKeys : Seen → Seen → Vec K Global → Type 0
  TakesKeys old new keys = TakesPart (SpellsKeys (kept_keys keys)) old new

  -- a template's keys were taken and are kept, and its number of rows was taken after them
  abbrev pub TakesKeysAndRows : Seen → Seen → Vec K Global × ℕ → Type 0
  TakesKeysAndRows old new p = TakesPart (SpellsKeysAndRows (kept_keys p.0) p.1) old new
