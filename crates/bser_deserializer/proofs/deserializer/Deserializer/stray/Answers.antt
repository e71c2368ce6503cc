use Rattle.std.proofs.Common.{◌∙◌, sym, map}
use Rattle.bser_deserializer.proofs.Tags.{other_stray}
use Rattle.bser_deserializer.proofs.deserializer.Deserializer.stray.Goals as goal

pub returns-in_default : goal.returns-in_default
returns-in_default g c =
    let ks = map g.R.Lent.Lending.kept c.self.inside.keys.items in
    let place = c.self.inside.place in
    rw (← c.self.view_is)
    (c.de_custom.ensures ∙ sym (other_stray ks place c.self.inside.due c.args.tag c.in_default.not-Node c.in_default.not-Key c.in_default.not-Field))
