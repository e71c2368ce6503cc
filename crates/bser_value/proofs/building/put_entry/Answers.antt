use Rattle.std.proofs.Common.{ap, ◌∙◌}
use Rattle.bser_value.specs.ValueView.{entry_trees}
use Rattle.bser_value.proofs.Views.{pairs-insert_entry}
use Rattle.bser_value.proofs.building.put_entry.Goals as goal

pub returns-in-Ok : goal.returns-in-Ok
returns-in-Ok c = ap entry_trees c.in-Ok.ensures.entries ∙ pairs-insert_entry c.args.entries.now.entries c.args.key c.args.value
