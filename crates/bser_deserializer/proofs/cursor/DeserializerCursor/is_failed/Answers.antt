-- The keys stand in a `Vec`.
use Rattle.std.proofs.Common.{length, ap, arith}
use Rattle.std.proofs.lemmas.List.{length-map}
use Rattle.bser_deserializer.proofs.cursor.DeserializerCursor.is_failed.Goals as goal

pub returns-clause-fits : goal.returns-clause-fits
returns-clause-fits g c =
    omega (arith, c.self.inside.keys.ok, length-map c.self.inside.keys.items g.R.Lent.Lending.kept, ap (λ v. length v.state.keys) c.self.view_is)
