use Rattle.bser_events.proofs.Outcomes.{each_ok}
use Rattle.bser_value.proofs.Parts.{row_turns}
use Rattle.bser_value.proofs.table.Table.put_first.Goals as goal

pub returns : goal.returns
returns c =
    each_ok _ _ c.put_next.result c.put_next.ensures (row_turns c.args.value c.args.self.now c.put_row.new.self c.put_next.new.self c.in_ok-put_row.ensures c.requires)
