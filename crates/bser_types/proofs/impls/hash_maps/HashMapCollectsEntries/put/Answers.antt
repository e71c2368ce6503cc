use Rattle.std.proofs.Common.{◌∙◌, sym}
use Rattle.bser_types.proofs.HashMaps.{names_put}
use Rattle.bser_types.proofs.impls.hash_maps.HashMapCollectsEntries.put.Goals as goal

pub returns : goal.returns
returns g c ok d ps h held =
    names_put g.K.MapKey.name g.K.PartialEq.eq g.met.K.MapKey.equal_by_name g.V.Shape.holds c.args.self.now c.insert.new.self (c.args.key, c.args.value) ps d c.insert.result (sym c.is_ok.ensures.value ∙ ok) h c.insert.ensures.old c.insert.ensures.updates c.insert.ensures.len held
