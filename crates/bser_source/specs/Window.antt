-- What a byte source is to its callers: a window on the bytes left.
use Rattle.std.specs.Prelude.{◌≡◌, ℕ, ◌+◌, ◌-◌, ◌≤◌, ◌<◌, max, Bool, true, false, List, [], ◌∷◌, ◌++◌, length, drop, Option}
use Rattle.std.specs.Borrow.{GName}
use Rattle.std.specs.List.{AllByRecursion}
use Rattle.std.specs.Io.KnownBytes.{Consumes, prepend_known}

-- what a source shows of itself
pub record Window : Type 0 where
  -- the bytes buffered, which are the first of those left
  pub buffered : List ℕ
  -- the bytes left behind those buffered, where they are known
  pub beyond : Option (List ℕ)
  -- how many bytes were taken
  pub count : ℕ
  -- the count up to which it may take from the device ahead of the calls
  pub limit : ℕ
  -- whether what is read is borrowed from the input, which never fails but at its end
  pub lends : Bool
  -- whether all that comes fails
  pub failed : Bool
  -- the device's count of failures
  pub failures : ℕ
  -- the reference that it reads through, where it is one
  pub through : Option GName

-- the bytes left, where they are known
abbrev pub left : Window → Option (List ℕ)
left s = prepend_known s.buffered s.beyond

-- nothing is buffered but within the limit, or a bytes more than were taken
abbrev pub Within : ℕ → Window → Type 0
Within a s = length s.buffered ≤ max (s.limit - s.count) a

-- the first n bytes buffered were taken
abbrev pub consumed : ℕ → Window → Window
consumed n s = record s { buffered = drop n s.buffered; count = s.count + n }

-- the same source, all of whose calls fail from now on
abbrev pub closed : Window → Window
closed s = record s { buffered = []; failed = true }

-- more bytes may be buffered, n of them though they lie past the limit
pub record Grown (n : ℕ) (old new : Window) : Type 0 where
  pub more : List ℕ
  pub buffered : new.buffered ≡ old.buffered ++ more
  pub device : Consumes old.beyond new.beyond more
  pub within : (a : ℕ) → n ≤ a → Within a old → Within a new
  pub count : new.count ≡ old.count
  pub limit : new.limit ≡ old.limit
  pub lends : new.lends ≡ old.lends
  pub failed : new.failed ≡ old.failed
  pub failures : new.failures ≡ old.failures
  pub through : new.through ≡ old.through

-- each number is one of a byte
abbrev pub AreOctets : List ℕ → Type 0
AreOctets = AllByRecursion (λ x. x < 256)

-- n bytes are buffered
pub record Filled (n : ℕ) (old new : Window) : Type 0 where
  pub grown : Grown n old new
  pub octets : AreOctets new.buffered
  pub enough : n ≤ length new.buffered
  pub working : old.failed ≡ false

-- the next byte is buffered
pub record Peeks (old new : Window) (b : ℕ) : Type 0 where
  pub filled : Filled 1 old new
  pub next : new.buffered ≡ b ∷ drop 1 new.buffered

-- a call took the bytes bs, those buffered first
pub record Took (old new : Window) (bs : List ℕ) : Type 0 where
  pub more : List ℕ
  pub bytes : old.buffered ++ more ≡ bs ++ new.buffered
  pub octets : AreOctets bs
  pub device : Consumes old.beyond new.beyond more
  pub within : (a : ℕ) → Within (a + length bs) old → Within a new
  pub count : new.count ≡ old.count + length bs
  pub limit : new.limit ≡ old.limit
  pub lends : new.lends ≡ old.lends
  pub working : old.failed ≡ false
  pub failed : new.failed ≡ false
  pub failures : new.failures ≡ old.failures
  pub through : new.through ≡ old.through

-- the same window with another limit
abbrev pub with_limit : ℕ → Window → Window
with_limit limit s = record s { limit = limit }

-- n bytes were announced: the limit may be as far, and all else stays
pub record Expects (old new : Window) (n : ℕ) : Type 0 where
  pub kept : old.limit ≤ new.limit
  pub most : new.limit ≤ max old.limit (old.count + n)
  pub same : new ≡ with_limit new.limit old
