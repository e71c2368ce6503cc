-- What a real holds.
use Rattle.std.specs.Prelude.{◌≡◌, pos}
use Rattle.bser_format.specs.Content.{Content, number}
use Rattle.bser_types.specs.declared.impls.scalars.RealBits.{RealBits}

-- the bits of a real
abbrev pub HoldsReal : RealBits → Content → Type 0
HoldsReal v c = c ≡ number (pos v.0)
