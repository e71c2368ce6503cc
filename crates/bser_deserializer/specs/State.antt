-- What callers see of a deserializer.
use Rattle.std.specs.Prelude.{◌≡◌, ℕ, ◌-◌, ◌^◌, ℤ, pos, List, [], ◌∷◌, ◌++◌, min}
use Rattle.bser_format.specs.Expected.{Due, nothing_due, node_due}
use Rattle.bser_source.specs.Device.{one_more}
use Rattle.bser_source.specs.Window.{Window, closed}
use Rattle.bser_bunser.specs.Tagged.{TookHead, EndsAt}

pub record State : Type 0 where
  -- what is left of the message, and of what follows
  pub source : Window
  -- what the next call reads
  pub due : Due
  -- how many levels are left
  pub levels : ℕ
  -- the keys of the innermost open template, and those of the templates around it
  pub keys : List (List ℕ)
  pub outer : List (List (List ℕ))
  -- how many containers are open
  pub opened : ℕ
  -- the message's capabilities, the count at which its body starts, and the body's length
  pub capabilities : ℕ
  pub start : ℤ
  pub len : ℤ

-- the same, over another state of its source
abbrev pub with_source : State → Window → State
with_source s r = record s { source = r }

-- the same, with something else expected
abbrev pub awaiting : Due → State → State
awaiting d s = record s { due = d }

-- what was expected is taken
abbrev pub past : State → Window → State
past s r = record s { source = r; due = nothing_due }

-- the same, after an error
abbrev pub refused : State → State
refused s = with_source s (closed s.source)

-- inside a container that was opened, with n levels left
abbrev pub inside : ℕ → State → State
inside n s = record s { due = nothing_due; levels = n; opened = one_more s.opened }

-- inside a template with these keys, with n levels left
abbrev pub inside_template : List (List ℕ) → ℕ → State → State
inside_template ks n s = record s { due = nothing_due; levels = n; opened = one_more s.opened; keys = ks; outer = s.outer ++ s.keys ∷ [] }

-- the header of a message is taken, and its value is expected with n levels left
pub record Begins (n : ℕ) (old : Window) (new : State) : Type 0 where
  pub took : TookHead old new.source new.capabilities new.len
  pub start : new.start ≡ pos (min new.source.count (2 ^ 63 - 1))
  pub due : new.due ≡ node_due
  pub levels : new.levels ≡ n
  pub keys : new.keys ≡ []
  pub outer : new.outer ≡ []
  pub opened : new.opened ≡ 0

-- nothing is expected, no container is open, and the body ended where it was to
pub record IsAtEnd (s : State) : Type 0 where
  pub due : s.due ≡ nothing_due
  pub opened : s.opened ≡ 0
  pub ends : EndsAt s.start s.len s.source.count

-- nothing was read: no container is open, and no template's keys are kept
pub record IsUnread (s : State) : Type 0 where
  pub opened : s.opened ≡ 0
  pub keys : s.keys ≡ []
  pub outer : s.outer ≡ []
