-- A slice that is refused.
use Rattle.std.proofs.Common.{rules, ◌∙◌}
use Rattle.bser_messages.specs.Descriptions.{caused}
use Rattle.bser_messages.proofs.Sources.{if_refused, slice_refused, slice_head}
use Rattle.bser_messages.proofs.described.from_slice_within.Goals as goal

pub returns-clause-refused : goal.returns-clause-refused
returns-clause-refused g c =
    if_refused (caused c.read_described.result) _ _ (λ e u. slice_refused c.args.limit g.T.Shape.reads g.T.Shape.asks g.T.Shape.needs e c.args.bytes.now _ _ (search rules) u) c.read_described.ensures.refused

pub returns-clause-head : goal.returns-clause-head
returns-clause-head g c =
    if_refused (caused c.read_described.result) _ _ (λ e u memory. slice_head c.args.bytes.now _ (c.unread-from.ensures.source ∙ c.new.ensures) (u memory)) c.read_described.ensures.head
