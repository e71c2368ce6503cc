-- A name or a row has no tag.
use Rattle.bser_deserializer.proofs.Dues.{no_tag_node}
use Rattle.bser_deserializer.proofs.node.Node.at.Goals as goal

pub returns-in_default-2 : goal.returns-in_default-2
returns-in_default-2 c ks place = no_tag_node ks place c.args.due c.args.byte c.in_default.not-Node-0 c.in_default.not-Key-0 c.in_default.not-Field-0
