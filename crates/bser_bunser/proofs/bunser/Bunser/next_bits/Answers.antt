use Rattle.std.proofs.Common.{rules, ℕ, ◌≡◌, ◌<◌, length, take, drop, get_or}
use Rattle.bser_bunser.proofs.NumberBytes.{bytes_of_64}
use Rattle.bser_bunser.proofs.Fixed.{took_bits, small_rest, length-rest}
use Rattle.bser_bunser.proofs.bunser.Bunser.next_bits.Goals as goal

pub returns-clause-ok : goal.returns-clause-ok
returns-clause-ok g c =
    let bs = c.in_ok-bytes.bytes in
    let small : (i : ℕ) → get_or bs i 0 < 256 = search rules in
    let len : length bs ≡ 9 = c.in_ok-bytes.ensures.length in
    took_bits c.read_u64.result _ _ bs c.requires len (bytes_of_64 (take 8 (drop 1 bs)) _ (length-rest bs 8 len) (small_rest bs 8 small) c.read_u64.ensures) c.in_ok-bytes.ensures.ok
