use Rattle.std.proofs.Common.{rules, ◌≡◌, ◌+◌, ◌≤◌, length, drop, take, ◌∙◌}
use Rattle.bser_source.proofs.Lists.{take_whole}
use Rattle.bser_source.proofs.Pulls.{reads_more}
use Rattle.bser_source.proofs.pull.pull_rest.Goals as goal

pub loop-filled-preserved : goal.loop-filled-preserved
loop-filled-preserved g c =
    let i = c.loop-filled.invariant in
    let made = c.in_ok-make_room.ensures in
    let e = c.in-Ok.ensures in
    let scratch = c.make_room.new.scratch in
    let buf = c.pull_at.new.buf in
    let total : scratch.len ≡ length buf = search rules in
    let room : c.loop-filled.filled + c.in-Ok.n ≤ length buf = search rules in
    let fits : length buf ≤ c.args.len = search rules in
    let kept : take c.loop-filled.filled buf ≡ take c.loop-filled.filled c.loop-filled.scratch.items = cc in
    rw (take_whole scratch.len buf (drop (length buf) scratch.items) total) (record {
      within = room;
      fits = fits;
      added = reads_more _ _ _ _ _ _ c.loop-filled.filled c.in-Ok.n kept i.added e.ok;
      failures = e.failures ∙ i.failures;
      through = e.through ∙ i.through;
    })
