use Rattle.std.proofs.Common.{rules, ℕ, ◌≡◌, ◌≤◌, ◌<◌, length, take, get_or, refl}
use Rattle.std.specs.Int.{w32}
use mir.Val.{SFits}
use Rattle.std.proofs.lemmas.Int.{to_z-of_z}
use Rattle.byteorder.specs.Endian.{little_number}
use Rattle.bser_bunser.proofs.NumberBytes.{bytes_of_32}
use Rattle.bser_bunser.proofs.Ints.{number_prefix, small_front}
use Rattle.bser_bunser.proofs.prefix.i32_prefix.Goals as goal

pub returns : goal.returns
returns c =
    let rest = c.args.rest.now in
    let front = take 4 rest in
    let enough : 4 ≤ length rest = search rules in
    let len : length front ≡ 4 = search rules in
    let all : (i : ℕ) → get_or rest i 0 < 256 = search rules in
    let fits : SFits w32 c.read_i32.result = search rules in
    rw (to_z-of_z w32 c.read_i32.result fits)
    (number_prefix w32 4 (little_number 4 front) _ rest enough c.read_i32.ensures (bytes_of_32 front _ len (small_front rest 4 all) refl))
