use Rattle.std.proofs.Common.{rules, ℕ, ◌≡◌, ◌≤◌, ◌<◌, length, take, get_or, refl}
use Rattle.std.specs.Int.{w64}
use mir.Val.{SFits}
use Rattle.std.proofs.lemmas.Int.{to_z-of_z}
use Rattle.byteorder.specs.Endian.{little_number}
use Rattle.bser_bunser.proofs.NumberBytes.{bytes_of_64}
use Rattle.bser_bunser.proofs.Ints.{number_prefix, small_front}
use Rattle.bser_bunser.proofs.prefix.i64_prefix.Goals as goal

pub returns : goal.returns
returns c =
    let rest = c.args.rest.now in
    let front = take 8 rest in
    let enough : 8 ≤ length rest = search rules in
    let len : length front ≡ 8 = search rules in
    let all : (i : ℕ) → get_or rest i 0 < 256 = search rules in
    let fits : SFits w64 c.read_i64.result = search rules in
    rw (to_z-of_z w64 c.read_i64.result fits)
    (number_prefix w64 8 (little_number 8 front) _ rest enough c.read_i64.ensures (bytes_of_64 front _ len (small_front rest 8 all) refl))
