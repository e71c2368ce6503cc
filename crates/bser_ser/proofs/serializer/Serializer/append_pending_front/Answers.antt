use Rattle.std.proofs.Common.{rules, ◌≡◌, ◌+◌, ◌≤◌, ◌++◌, length, take, arith, refl, ◌∙◌, length-append}
use Rattle.std.proofs.Math.Seq.{take-append-add}
use Rattle.bser_ser.specs.declared.serializer.TheConstants.{MOST_PENDING}
use Rattle.bser_ser.proofs.Sends.{Sent-more}
use Rattle.bser_ser.proofs.serializer.Serializer.append_pending_front.Goals as goal

pub returns-in-Ok : goal.returns-in-Ok
returns-in-Ok g c =
    let pending = c.make_room.new.self.pending.items in
    let piece = take c.args.n c.args.bytes.now in
    let appended : c.extend_from_slice.new.self.items ≡ pending ++ c.args.bytes.now = search rules in
    let before : c.len-before.result ≡ length pending = search rules in
    let more : c.truncate.new.self.items ≡ pending ++ piece = c.truncate.ensures.items ∙ rw (before, appended) (take-append-add pending c.args.bytes.now c.args.n) in
    let room : length pending ≤ MOST_PENDING = c.in_ok-make_room.ensures.room in
    let within : length c.truncate.new.self.items ≤ MOST_PENDING + length piece = rw (more, length-append pending piece) (omega (arith, room)) in
    (Sent-more c.args.self.now c.make_room.new.self _ piece c.in_ok-make_room.ensures.ok refl refl more, within)
