use Rattle.bser_bunser.proofs.Faults.{other_fault}
use Rattle.bser_bunser.proofs.prefix.before_fault.Goals as goal

-- an integer below 0 is as long as its tag says
pub returns-in_default-clause-fault : goal.returns-in_default-clause-fault
returns-in_default-clause-fault c = other_fault c.args.why c.args.bytes.now c.int_len.result c.in_default.not-Tag c.in_default.not-Length c.requires c.int_len.ensures.len
