use Rattle.std.proofs.Common.{rules, ℕ, ◌≡◌, ◌<◌, length, take, drop, get_or, refl}
use Rattle.std.specs.Int.{w64}
use mir.Val.{SFits}
use Rattle.std.proofs.lemmas.Int.{to_z-of_z}
use Rattle.byteorder.specs.Endian.{little_number}
use Rattle.bser_bunser.proofs.NumberBytes.{bytes_of_64}
use Rattle.bser_bunser.proofs.Fixed.{took_number, small_rest, length-rest}
use Rattle.bser_bunser.proofs.bunser.Bunser.next_i64.Goals as goal

pub returns-in-Ok-clause-ok : goal.returns-in-Ok-clause-ok
returns-in-Ok-clause-ok g c =
    let bs = c.in-Ok.bytes in
    let rest = take 8 (drop 1 bs) in
    let small : (i : ℕ) → get_or bs i 0 < 256 = search rules in
    let len : length bs ≡ 9 = c.in-Ok.ensures.length in
    let fits : SFits w64 c.read_i64.result = search rules in
    rw (to_z-of_z w64 c.read_i64.result fits)
    (took_number w64 8 (little_number 8 rest) c.read_i64.result _ _ bs c.read_i64.ensures c.requires len (bytes_of_64 rest _ (length-rest bs 8 len) (small_rest bs 8 small) refl) c.in-Ok.ensures.ok)
