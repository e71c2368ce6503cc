use Rattle.std.proofs.Common.{rules, map}
use Rattle.bser_deserializer.proofs.Dues.{no_value_due}
use Rattle.bser_deserializer.proofs.deserializer.Deserializer.is_value_due.Goals as goal

pub returns-else-eq-clause-no : goal.returns-else-eq-clause-no
returns-else-eq-clause-no g c = λ e.
    rw (← c.self.view_is)
    (no_value_due (map g.R.Lent.Lending.kept c.self.inside.keys.items) c.self.inside.place c.self.inside.due (search rules) (search rules))
