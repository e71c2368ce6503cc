use Rattle.std.proofs.Common.{arith}
use Rattle.bser_structs.proofs.Places.{both_finished, first_lacks, others_lack}
use Rattle.bser_structs.proofs.slots.Tuple2Slots.finish.Goals as goal

pub returns-in-Some-Ok-clause-values : goal.returns-in-Some-Ok-clause-values
returns-in-Some-Ok-clause-values g c =
    both_finished (g.A.Slot.keeps c.args.self.0) (g.F.Slots.keeps c.args.self.1) g.A.Slot.holds g.F.Slots.holds c.in-Some-Ok.first c.in-Some-Ok.others
    (rw c.in-Some-Ok.is-0 at c.finish.ensures) (rw c.in-Some-Ok.is-1 at c.finish-2.ensures.values)

pub returns-in-Some-Err-clause-absent : goal.returns-in-Some-Err-clause-absent
returns-in-Some-Err-clause-absent g c =
    λ small. others_lack (g.A.Slot.keeps c.args.self.0) (g.F.Slots.keeps c.args.self.1) c.in-Some-Err.place _ (omega (arith, c.saturating_add.ensures, small))
    ((rw c.in-Some-Err.is-1 at c.finish-2.ensures.absent) (omega (arith, c.saturating_add.ensures, small)))

pub returns-in-None-default-clause-absent : goal.returns-in-None-default-clause-absent
returns-in-None-default-clause-absent g c =
    λ small. first_lacks (g.A.Slot.keeps c.args.self.0) (g.F.Slots.keeps c.args.self.1) g.A.Slot.holds (rw c.in-None-default.is-0 at c.finish.ensures)
