use Rattle.bser_format.proofs.Bounds.{value_nodes, value_depth, value_body, value_fits}
use Rattle.serde_bser.proofs.laws.nodes_and_depth.Goals as goal

pub returns : goal.returns
returns c = record { nodes = value_nodes; depth = value_depth; body = value_body; fits = value_fits }
