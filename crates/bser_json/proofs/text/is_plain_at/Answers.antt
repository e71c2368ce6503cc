-- The three tests of the lanes are those of each byte.
use Rattle.json.proofs.Printed.Plain.{plain_from_lanes}
use Rattle.bser_json.proofs.text.is_plain_at.Goals as goal

pub returns : goal.returns
returns g c = plain_from_lanes c.args.bytes.now c.args.at g.row.N c.requires.0 c.requires.1 c.type_inv.bytes
