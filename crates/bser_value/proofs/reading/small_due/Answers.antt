-- The value that is expected was read.
use Rattle.std.proofs.Common.{rules}
use Rattle.bser_value.proofs.Fronts.{front_answers}
use Rattle.bser_value.proofs.reading.small_due.Goals as goal

pub returns : goal.returns
returns g c =
    front_answers c.args.from.now c.take_front.new.from c.in_ok-front.front.levels c.in_ok-front.front.bytes.now c.in_ok-value.field-0.rest.now c.in_ok-value.field-0.value c.in_ok-len.len
    c.in_ok-front.ensures c.in_ok-value.ensures (search rules) c.take_front.ensures.state
