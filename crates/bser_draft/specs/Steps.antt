-- What each part does to the containers that are open.
use Rattle.std.specs.Prelude.{◌≡◌, ◌≢◌, ℕ, ◌-◌, false, List, [], ◌∷◌, ◌++◌}
use Rattle.bser_draft.specs.declared.container.Container.{Container}
use Rattle.bser_draft.specs.declared.containers.OpenContainers.{OpenContainers}

-- those around the innermost one
abbrev pub outer_of : OpenContainers → List Container
outer_of c = c.outer.items

-- so many values and entries are to come, and may have so many levels
abbrev pub holding : ℕ → ℕ → ℕ → Container
holding values entries levels = record { values = values; entries = entries; levels = levels }

-- one value less is to come
abbrev pub less_value : Container → Container
less_value o = holding (o.values - 1) o.entries o.levels

-- the key of an entry came, and its value is to come
abbrev pub less_key : Container → Container
less_key o = holding 1 (o.entries - 1) o.levels

-- one value of so many levels is to come
pub record IsNew (levels : ℕ) (c : OpenContainers) : Type 0 where
  pub inner : c.inner ≡ holding 1 0 levels
  pub outer : outer_of c ≡ []
  pub fine : c.is_rough ≡ false

-- nothing is to come of the innermost one, and no other is around
pub record IsDone (c : OpenContainers) : Type 0 where
  pub no_values : c.inner.values ≡ 0
  pub no_entries : c.inner.entries ≡ 0
  pub outer : outer_of c ≡ []

-- nothing came
pub record Stays (a b : OpenContainers) : Type 0 where
  pub inner : b.inner ≡ a.inner
  pub outer : outer_of b ≡ outer_of a
  pub rough : b.is_rough ≡ a.is_rough

-- a value of the innermost one came
pub record TakesValue (a b : OpenContainers) : Type 0 where
  pub inner : b.inner ≡ less_value a.inner
  pub outer : outer_of b ≡ outer_of a
  pub rough : b.is_rough ≡ a.is_rough

-- a key of the innermost one came
pub record TakesKey (a b : OpenContainers) : Type 0 where
  pub inner : b.inner ≡ less_key a.inner
  pub outer : outer_of b ≡ outer_of a
  pub rough : b.is_rough ≡ a.is_rough

-- a container of so many values and entries was opened, as a value of the innermost one
pub record Enters (a b : OpenContainers) (values entries : ℕ) : Type 0 where
  pub due : a.inner.values ≢ 0
  pub level : a.inner.levels ≢ 0
  pub inner : b.inner ≡ holding values entries (a.inner.levels - 1)
  pub outer : outer_of b ≡ outer_of a ++ less_value a.inner ∷ []
  pub rough : b.is_rough ≡ a.is_rough

-- the innermost one was closed, of which nothing was to come
pub record Leaves (a b : OpenContainers) : Type 0 where
  pub no_values : a.inner.values ≡ 0
  pub no_entries : a.inner.entries ≡ 0
  pub outer : outer_of a ≡ outer_of b ++ b.inner ∷ []
  pub rough : b.is_rough ≡ a.is_rough
