use Rattle.std.proofs.Common.{rules}
use Rattle.bser_ser.proofs.Gap.{filled}
use Rattle.bser_ser.proofs.message.to_vec.Goals as goal

pub returns-in_ok-put_in_gap-in-Ok-clause-ok : goal.returns-in_ok-put_in_gap-in-Ok-clause-ok
returns-in_ok-put_in_gap-in-Ok-clause-ok g c =
    filled (g.T.Serialize.meaning c.args.value.now) c.in_ok-gap.field-0.items c.in_ok-message.message.items c.put_in_gap.new.message.items c.in-Ok.body
    c.in_ok-gap.ensures c.in_ok-message.ensures.ok (search rules) (search rules)
