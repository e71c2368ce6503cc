-- What the definitions say of single inputs, which a wrong body would answer otherwise.
use Rattle.std.proofs.Common.{◌≡◌, refl, [], ◌∷◌, Some, Less}
use Rattle.std.specs.Prelude.{codes}
use Rattle.std.specs.Ordering.{nat_cmp}
use Rattle.std.specs.Cmp.Lexicographic.{slice_cmp}
use Rattle.bser_format.specs.QuotedText.{mark_before}
use Rattle.bser_format.specs.RealText.{real_text}

-- a key that begins with a dollar sign gets a second one, and no other key does
pub dollar_is_marked : mark_before (Some 0x24) ≡ 0x24 ∷ []
dollar_is_marked = refl

pub percent_is_not_marked : mark_before (Some 0x25) ≡ []
percent_is_not_marked = refl

-- byte strings are ordered by their first difference
pub one_is_below_two : slice_cmp nat_cmp (1 ∷ 3 ∷ []) (2 ∷ []) ≡ Less
one_is_below_two = refl

-- a NaN is marked as a real
pub nan_is_marked : real_text 0x7ff8000000000000 ≡ Some (codes "{\"$real\": \"7ff8000000000000\"}")
unfolding lib.Ieee.nan_bits lib.Utf8.encode
nan_is_marked = refl
