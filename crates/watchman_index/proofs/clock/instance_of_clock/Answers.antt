use Rattle.std.proofs.Common.{rules, sym}
use Rattle.watchman_index.proofs.Instances.{instance_at_last, instance_without_colon}
use Rattle.watchman_index.proofs.clock.instance_of_clock.Goals as goal

pub returns-in-Some : goal.returns-in-Some
returns-in-Some c =
    sym (instance_at_last c.args.clock.now c.in-Some.at (search rules) (search rules) (search rules))

pub returns-in-None : goal.returns-in-None
returns-in-None c = sym (instance_without_colon c.args.clock.now (search rules))
