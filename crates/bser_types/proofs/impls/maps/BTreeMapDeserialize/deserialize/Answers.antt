use Rattle.bser_types.proofs.Lists.{read_as}
use Rattle.bser_types.proofs.impls.maps.BTreeMapDeserialize.deserialize.Goals as goal

pub returns-clause-found : goal.returns-clause-found
returns-clause-found g c =
    read_as _ _ _ _ c.args.from.now.state c.read_entries.new.from.state (λ v k h. record { pairs = h.entries; list = h.list; held = h.held }) c.read_entries.ensures.found
