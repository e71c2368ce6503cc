use Rattle.std.proofs.Common.{◌≡◌, arith, rules}
use Rattle.std.specs.Prelude.{pos, nat_abs}
use Rattle.std.specs.Int.{w64}
use Rattle.std.proofs.lemmas.Int.{ints, to_z-of_z}
use mir.Val.{SFits, to_z, of_z}
use Rattle.bser_bunser.proofs.Counted.{negative_names, bytes_names}
use Rattle.bser_bunser.proofs.bunser.Bunser.read_bytes.Goals as goal

pub returns-then-len-lt0-clause-names : goal.returns-then-len-lt0-clause-names
returns-then-len-lt0-clause-names g c =
    let fits : SFits w64 c.args.len = search rules in
    rw c.refuse_length.ensures.answer (negative_names c.args.len _ (rw (to_z-of_z w64 c.args.len fits) at c.if-len-lt0.true))

pub returns-in-Err-clause-names : goal.returns-in-Err-clause-names
returns-in-Err-clause-names g c =
    let fits : SFits w64 c.args.len = search rules in
    let back : to_z w64 (of_z w64 c.args.len) ≡ c.args.len = to_z-of_z w64 c.args.len fits in
    let n = nat_abs (to_z w64 (of_z w64 c.args.len)) in
    let same : pos n ≡ c.args.len = omega (arith, ints, back, c.if-len-lt0.false) in
    rw c.take_refusal.ensures.reason (bytes_names c.args.len n _ _ _ same c.in-Err.ensures.err)
