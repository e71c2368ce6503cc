-- A number's bytes.
use Rattle.std.proofs.Common.{◌≡◌, ℕ, ◌<◌, ◌^◌, List, length, get_or, arith}
use Rattle.std.specs.Int.{Width, w16, w32, w64, to_le_bytes}
use Rattle.std.proofs.lemmas.Nat.{le_bytes_2, le_bytes_4, le_bytes_8}
use mir.Val.{bits}
use Rattle.byteorder.specs.Endian.{little_number}

-- bytes that make a number, the lowest first, are that number's bytes
pub record AreOf (w : Width) (n : ℕ) (bs : List ℕ) : Type 0 where
  pub fits : n < 2 ^ bits w
  pub bytes : to_le_bytes w n ≡ bs

pub bytes_of_16 : (bs : List ℕ) (n : ℕ) → length bs ≡ 2 → ((i : ℕ) → get_or bs i 0 < 256) → n ≡ little_number 2 bs → AreOf w16 n bs
bytes_of_16 bs n l small is = record { fits = omega (arith, is, small 0, small 1); bytes = le_bytes_2 bs n l small (omega (arith, is)) }

pub bytes_of_32 : (bs : List ℕ) (n : ℕ) → length bs ≡ 4 → ((i : ℕ) → get_or bs i 0 < 256) → n ≡ little_number 4 bs → AreOf w32 n bs
bytes_of_32 bs n l small is = record { fits = omega (arith, is, small 0, small 1, small 2, small 3); bytes = le_bytes_4 bs n l small (omega (arith, is)) }

pub bytes_of_64 : (bs : List ℕ) (n : ℕ) → length bs ≡ 8 → ((i : ℕ) → get_or bs i 0 < 256) → n ≡ little_number 8 bs → AreOf w64 n bs
bytes_of_64 bs n l small is = record { fits = omega (arith, is, small 0, small 1, small 2, small 3, small 4, small 5, small 6, small 7); bytes = le_bytes_8 bs n l small (omega (arith, is)) }
