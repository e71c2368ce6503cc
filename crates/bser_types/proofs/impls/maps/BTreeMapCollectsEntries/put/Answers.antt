use Rattle.std.proofs.Common.{◌∙◌, sym, refl}
use Rattle.bser_types.proofs.Lists.{where_ok}
use Rattle.bser_types.proofs.Maps.{holds_insert}
use Rattle.bser_types.proofs.impls.maps.BTreeMapCollectsEntries.put.Goals as goal

pub returns : goal.returns
returns g c ok d ps h held =
    rw (where_ok c.insert.result (sym c.is_ok.ensures.value ∙ ok) c.insert.ensures.entries)
    (holds_insert g.K.MapKey.name g.K.Ord.cmp g.met.K.MapKey.ordered_by_name g.V.Shape.holds c.args.self.now.entries ps c.args.key c.args.value (g.K.MapKey.name c.args.key) d refl h held)
