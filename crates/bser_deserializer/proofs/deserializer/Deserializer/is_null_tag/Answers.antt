use Rattle.std.proofs.Common.{sym, map}
use Rattle.bser_deserializer.proofs.Scalars.{null_elsewhere}
use Rattle.bser_deserializer.proofs.deserializer.Deserializer.is_null_tag.Goals as goal

pub returns-in_default : goal.returns-in_default
returns-in_default g c =
    rw (← c.self.view_is)
    (sym (null_elsewhere (map g.R.Lent.Lending.kept c.self.inside.keys.items) c.self.inside.place c.self.inside.due c.args.tag c.in_default.not-Field))
