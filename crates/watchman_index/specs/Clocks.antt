-- What clocks say by their texts.
use Rattle.std.specs.Prelude.{◌≡◌, ◌⊎◌, ◌≤◌, ◌<◌, ◌+◌, ◌^◌, ℕ, Bool, true, not, List, [], length, drop, ◌&&◌, ◌==◌}
use Rattle.std.specs.List.{before_last}
use Rattle.std.specs.Str.{bytes_eq}
use Rattle.std.specs.Str.Parse.{IsNumeral, digits_value, without_leading_plus}

-- a colon, which parts a clock
abbrev pub colon : ℕ
colon = 58

-- the part of a clock before its ticks, which are behind its last colon: the server and the crawl
abbrev pub instance_of : List ℕ → List ℕ
instance_of clock = before_last (λ b. b == colon) clock

-- whether both clocks are of one server, and of one crawl of the root
abbrev pub is_one_instance : List ℕ → List ℕ → Bool
is_one_instance a b = bytes_eq (instance_of a) (instance_of b) && not (bytes_eq (instance_of a) [])

-- what is behind the last colon of a clock that has one
abbrev pub ticks_text : List ℕ → List ℕ
ticks_text clock = drop (length (instance_of clock) + 1) clock

-- a clock's ticks are the number of 64 bits behind its last colon
pub record HasTicks (clock : List ℕ) (n : ℕ) : Type 0 where
  pub numeral : IsNumeral 10 (without_leading_plus (ticks_text clock))
  pub value : n ≡ digits_value 10 (without_leading_plus (ticks_text clock))
  pub fits : n < 2 ^ 64

-- the clock is of the server and the crawl of the last one, and has no more ticks
pub record IsNoLater (last clock : List ℕ) : Type 0 where
  pub most : ℕ
  pub ticks : ℕ
  pub instance : is_one_instance last clock ≡ true
  pub last_ticks : HasTicks last most
  pub clock_ticks : HasTicks clock ticks
  pub no_more : ticks ≤ most

-- where all is told up to the last clock, all is told up to this one
abbrev pub IsToldBy : List ℕ → List ℕ → Type 0
IsToldBy last clock = (last ≡ clock) ⊎ IsNoLater last clock
