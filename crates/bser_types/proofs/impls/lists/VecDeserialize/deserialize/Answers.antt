use Rattle.bser_types.proofs.Lists.{read_as}
use Rattle.bser_types.proofs.impls.lists.VecDeserialize.deserialize.Goals as goal

pub returns-clause-found : goal.returns-clause-found
returns-clause-found g c =
    read_as _ _ _ _ c.args.from.now.state c.read_items.new.from.state (λ v k h. rw h.made h.held) c.read_items.ensures.found
