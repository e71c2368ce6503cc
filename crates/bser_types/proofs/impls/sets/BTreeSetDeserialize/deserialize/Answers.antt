use Rattle.bser_types.proofs.Lists.{read_as}
use Rattle.bser_types.proofs.impls.sets.BTreeSetDeserialize.deserialize.Goals as goal

pub returns-clause-found : goal.returns-clause-found
returns-clause-found g c =
    read_as _ _ _ _ c.args.from.now.state c.read_items.new.from.state (λ v k h. record { values = h.items; held = h.held; ordered = h.made }) c.read_items.ensures.found
