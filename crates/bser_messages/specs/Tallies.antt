-- How the size of a value adds up over its events.
use Rattle.std.specs.Prelude.{◌≡◌, ℕ, ◌+◌, ◌*◌, min, max, List, [], ◌∷◌, length, map, reverse, Option, Some, None, option_map, unwrap_or}
use Rattle.bser_events.specs.Events.{Event, open_array, open_object, key, open_template, open_rows, close}
use Rattle.bser_messages.specs.Sizes.{capped}
use Rattle.bser_messages.specs.declared.sizing.Sizing.{Sizing}

-- what was counted: the values, the bytes of keys, those of a template's keys until its rows are
-- reported, how deep the innermost open container is, how deep any was, and how deep it was outside
-- each open container, the innermost first
pub record Tally : Type 0 where
  pub values : ℕ
  pub keys : ℕ
  pub template : Option ℕ
  pub level : ℕ
  pub depth : ℕ
  pub around : List ℕ

-- nothing was reported
abbrev pub nothing_told : Tally
nothing_told = record { values = 0; keys = 0; template = None; level = 0; depth = 0; around = [] }

-- n values more
abbrev pub more_values : ℕ → Tally → Tally
more_values n m = record m { values = m.values + n }

-- n levels deeper
abbrev pub entered : ℕ → Tally → Tally
entered n m = record m { level = m.level + n; depth = max m.depth (m.level + n) }

-- a container was opened
abbrev pub opened : Tally → Tally
opened m = entered 1 (more_values 1 (record m { around = m.level ∷ m.around }))

-- a template was opened, whose keys follow
abbrev pub opened_template : Tally → Tally
opened_template m = record (opened m) { template = Some 0 }

-- a key of n bytes was reported, of an object, or of a template whose keys had so many before
abbrev pub keyed_after : ℕ → Option ℕ → Tally → Tally
keyed_after n None m = record m { keys = m.keys + n }
keyed_after n (Some k) m = record m { template = Some (k + n) }

abbrev pub keyed : ℕ → Tally → Tally
keyed n m = keyed_after n m.template m

-- n rows follow, each of which has all keys of the template
abbrev pub with_rows : ℕ → Tally → Tally
with_rows n m =
    entered (min n 1) (more_values n (record m { keys = m.keys + unwrap_or m.template 0 * n; template = None }))

-- the innermost container was closed, of those that were open
abbrev pub closed_in : List ℕ → Tally → Tally
closed_in [] m = record m { level = 0; around = [] }
closed_in (n ∷ ns) m = record m { level = n; around = ns }

abbrev pub closed : Tally → Tally
closed m = closed_in m.around m

-- what an event adds
abbrev pub counted : Event → Tally → Tally
counted (open_array n) m = opened m
counted (open_object n) m = opened m
counted (open_template n) m = opened_template m
counted (open_rows n) m = with_rows n m
counted (key s) m = keyed (length s) m
counted close m = closed m
counted _ m = more_values 1 m

-- ---- what a builder has of it

-- the builder has this tally, each number capped
pub record Shows (b : Sizing) (m : Tally) : Type 0 where
  pub values : b.size.values ≡ capped m.values
  pub keys : b.size.key_bytes ≡ capped m.keys
  pub template : b.template_keys ≡ option_map capped m.template
  pub level : b.level ≡ capped m.level
  pub depth : b.size.depth ≡ capped m.depth
  pub around : reverse b.around.items ≡ map capped m.around

-- the builder's tally changes so
abbrev pub Counts : (Tally → Tally) → Sizing → Sizing → Type 0
Counts f old new = (m : Tally) → Shows old m → Shows new (f m)

-- an event was taken
abbrev pub Takes : Sizing → Event → Sizing → Type 0
Takes old e new = Counts (counted e) old new
