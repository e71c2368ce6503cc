use Rattle.std.proofs.Common.{rules, append_assoc}
use Rattle.bser_ser.proofs.Keys.{key_of_text}
use Rattle.bser_ser.proofs.pending.append_variant.Goals as goal

pub returns : goal.returns
returns c = rw (key_of_text c.args.name.now c.utf8.name) (search (rules, append_assoc))
