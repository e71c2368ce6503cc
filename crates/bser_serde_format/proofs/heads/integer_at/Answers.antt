-- An integer.
use Rattle.std.proofs.Common.{rules}
use Rattle.std.specs.Int.{w64}
use mir.Val.{SFits}
use Rattle.std.proofs.lemmas.Int.{to_z-of_z}
use Rattle.bser_serde_format.proofs.Pieces.{integer_reads}
use Rattle.bser_serde_format.proofs.heads.integer_at.Goals as goal

pub returns-in-Found : goal.returns-in-Found
returns-in-Found c n =
    let fits : SFits w64 c.in-Found.value = search rules in
    rw (to_z-of_z w64 c.in-Found.value fits) (integer_reads n c.in-Found.len c.in-Found.value c.args.bytes.now c.in-Found.ensures)
