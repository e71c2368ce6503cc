use Rattle.std.proofs.Common.{rules, [], ◌∷◌}
use Rattle.bser_format.specs.Content.{truth}
use Rattle.bser_format.specs.ReadsHolders.{list_of}
use Rattle.watchman_client.specs.Kinds.{reads_mark}
use Rattle.watchman_client.proofs.Marks.{begins_as, mark_content, marked, not_read}
use Rattle.watchman_client.proofs.kinds.is_unsolicited.Goals as goal

pub returns-in-Ok : goal.returns-in-Ok
returns-in-Ok c =
    let v = c.in-Ok.mark.unilateral in
    marked v c.args.message.now (begins_as reads_mark _ c.args.message.now c.in-Ok.mark (list_of (truth v ∷ [])) (mark_content v) c.in-Ok.ensures.found)

pub returns-in-Err : goal.returns-in-Err
returns-in-Err c = λ u. not_read reads_mark _ _ c.args.message.now _ _ c.in-Err.ensures.refused (search rules) u
