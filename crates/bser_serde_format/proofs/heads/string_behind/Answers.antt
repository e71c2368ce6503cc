-- A string behind its tag.
use Rattle.std.proofs.Common.{arith}
use Rattle.bser_events.proofs.AtStart.{front_cut}
use Rattle.bser_serde_format.proofs.Firsts.{string_here}
use Rattle.bser_serde_format.proofs.heads.string_behind.Goals as goal

pub returns : goal.returns
returns c =
    string_here c.args.bytes.now c.in_ok-len.field-0.rest.now _ _ c.in_ok-len.field-0.count c.requires.some c.requires.tag c.in_ok-len.ensures
    (front_cut c.in_ok-len.field-0.count c.in_ok-len.field-0.rest.now (omega (arith, c.if-rest-len.false)))
