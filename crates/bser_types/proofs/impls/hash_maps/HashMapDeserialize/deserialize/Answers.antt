use Rattle.bser_types.proofs.Lists.{read_as}
use Rattle.bser_types.proofs.HashMaps.{names_start}
use Rattle.bser_types.proofs.impls.hash_maps.HashMapDeserialize.deserialize.Goals as goal

pub read_entries-requires : goal.read_entries-requires
read_entries-requires g c = rw c.new.ensures.empty (names_start g.K.MapKey.name g.V.Shape.holds)

pub returns-clause-found : goal.returns-clause-found
returns-clause-found g c =
    read_as _ _ _ _ c.args.from.now.state c.read_entries.new.from.state (λ v k h. record { pairs = h.entries; list = h.list; held = h.held }) c.read_entries.ensures.found
