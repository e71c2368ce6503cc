use Rattle.std.proofs.Common.{rules}
use Rattle.bser_events.proofs.Outcomes.{each_ok}
use Rattle.bser_value.proofs.Parts.{field_turns}
use Rattle.bser_value.proofs.table.Table.put.Goals as goal

pub returns : goal.returns
returns c = each_ok _ _ c.put_next.result c.put_next.ensures (λ p. field_turns c.args.value c.args.self.now c.put_next.new.self p (search rules))
