use Rattle.std.proofs.Common.{rules, ℕ, ◌≡◌, ◌≤◌, ◌<◌, length, take, get_or, sym}
use Rattle.std.specs.Int.{w64}
use Rattle.bser_bunser.proofs.NumberBytes.{bytes_of_64, AreOf}
use Rattle.bser_bunser.proofs.Ints.{small_front}
use Rattle.bser_bunser.proofs.prefix.u64_prefix.Goals as goal

pub returns : goal.returns
returns c =
    let rest = c.args.rest.now in
    let front = take 8 rest in
    let enough : 8 ≤ length rest = search rules in
    let len : length front ≡ 8 = search rules in
    let all : (i : ℕ) → get_or rest i 0 < 256 = search rules in
    let are : AreOf w64 c.read_u64.result front = bytes_of_64 front _ len (small_front rest 8 all) c.read_u64.ensures in
    record { within = enough; fits = are.fits; bytes = sym are.bytes }
