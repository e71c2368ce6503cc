-- A string's bytes.
use Rattle.std.proofs.Common.{rules, take}
use Rattle.bser_events.proofs.AtStart.{front_cut}
use Rattle.bser_value.proofs.Joins.{text_reads, bytes_read}
use Rattle.bser_value.proofs.direct.string.Goals as goal

pub returns-in-Ok : goal.returns-in-Ok
returns-in-Ok c levels =
    text_reads levels c.args.is_text c.args.len c.args.bytes.now _ _ c.in-Ok.copy c.if-is_text.true c.in_ok-found.ensures (search rules)

pub returns-in-Ok-from_slice : goal.returns-in-Ok-from_slice
returns-in-Ok-from_slice c levels =
    bytes_read levels c.args.is_text c.args.len c.args.bytes.now (take c.args.len c.args.bytes.now) _ c.from_vec.result c.if-is_text.false (front_cut c.args.len c.args.bytes.now c.if-bytes-len.false) (search rules)
