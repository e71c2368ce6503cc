-- A value fills the body.
use Rattle.std.proofs.Common.{rules}
use Rattle.bser_serde.proofs.Begins.{octets, has_message}
use Rattle.bser_serde.proofs.message.body_of.Goals as goal

pub returns : goal.returns
returns c =
    has_message c.args.levels c.args.most c.args.bytes.now c.in_ok-start.field-0 (octets c.args.bytes.now c.type_inv.bytes) (search rules) c.in_ok-start.ensures
    (record { rest = c.in_ok-rest.rest.now; value = c.in_ok-rest.ensures; whole = search rules })
