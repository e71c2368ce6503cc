use Rattle.std.proofs.Common.{rules, ℕ, ◌≡◌, ◌≤◌, ◌<◌, length, take, get_or, refl}
use Rattle.std.specs.Int.{w16}
use mir.Val.{SFits}
use Rattle.std.proofs.lemmas.Int.{to_z-of_z}
use Rattle.byteorder.specs.Endian.{little_number}
use Rattle.bser_bunser.proofs.NumberBytes.{bytes_of_16}
use Rattle.bser_bunser.proofs.Ints.{number_prefix, small_front}
use Rattle.bser_bunser.proofs.prefix.i16_prefix.Goals as goal

pub returns : goal.returns
returns c =
    let rest = c.args.rest.now in
    let front = take 2 rest in
    let enough : 2 ≤ length rest = search rules in
    let len : length front ≡ 2 = search rules in
    let all : (i : ℕ) → get_or rest i 0 < 256 = search rules in
    let fits : SFits w16 c.read_i16.result = search rules in
    rw (to_z-of_z w16 c.read_i16.result fits)
    (number_prefix w16 2 (little_number 2 front) _ rest enough c.read_i16.ensures (bytes_of_16 front _ len (small_front rest 2 all) refl))
