use Rattle.std.proofs.Common.{rules, ◌≡◌, length, drop, take, ap, ◌∙◌}
use Rattle.bser_source.proofs.Lists.{take_whole}
use Rattle.bser_frames.proofs.Additions.{reads_some}
use Rattle.bser_frames.proofs.buffer.Buffer.pull.Goals as goal

pub returns-in-Ok-clause-came : goal.returns-in-Ok-clause-came
returns-in-Ok-clause-came g c =
    let e = c.in-Ok.ensures in
    let buf = c.pull_at.new.buf in
    let room = c.self.inside.bytes in
    let len = c.self.inside.len in
    let total : room.len ≡ length buf = search rules in
    let held : take len room.items ≡ c.args.self.now.bytes = search rules in
    let kept : take len buf ≡ c.args.self.now.bytes = e.front ∙ ap (take len) c.as_mut_slice.ensures.value ∙ held in
    rw (take_whole room.len buf (drop (length buf) room.items) total) (reads_some _ _ c.args.self.now.bytes buf len c.in-Ok.n kept e.ok)
