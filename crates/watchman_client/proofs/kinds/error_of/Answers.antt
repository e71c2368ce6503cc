use Rattle.std.proofs.Common.{rules, [], ◌∷◌}
use Rattle.bser_format.specs.Content.{byte_list}
use Rattle.bser_format.specs.ReadsHolders.{list_of}
use Rattle.watchman_client.specs.Kinds.{reads_failure}
use Rattle.watchman_client.proofs.Marks.{begins_as, failure_content, not_read}
use Rattle.watchman_client.proofs.kinds.error_of.Goals as goal

pub returns-in-Ok-clause-found : goal.returns-in-Ok-clause-found
returns-in-Ok-clause-found c =
    let v = c.in-Ok.failure.error in
    begins_as reads_failure _ c.args.message.now c.in-Ok.failure (list_of (byte_list v ∷ [])) (failure_content v) c.in-Ok.ensures.found

pub returns-in-Err : goal.returns-in-Err
returns-in-Err c = record { found = tt; none = λ error u. not_read reads_failure _ _ c.args.message.now _ _ c.in-Err.ensures.refused (search rules) u }
