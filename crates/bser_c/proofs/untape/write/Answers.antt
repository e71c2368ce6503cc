-- What was measured has room.
use Rattle.std.proofs.Common.{rules, arith, ◌≤◌, ◌<◌, ◌^◌, length, ap}
use Rattle.bser_c.proofs.Untapes.{room_left}
use Rattle.bser_c.proofs.untape.write.Goals as goal

pub returns-in-Err-put_all-clause-refused : goal.returns-in-Err-put_all-clause-refused
returns-in-Err-put_all-clause-refused c =
    let same = ap (λ o. length o.now) c.new-front.ensures.out in
    let room : length c.args.out.now < 2 ^ 63 = search rules in
    let fits : c.saturating_add-size.result ≤ length c.new-front.result.out.now = omega (arith, same, c.if-size-out.false) in
    let told = c.in-Ok.ensures.told in
    absurd (room_left c.args.strings.now c.args.words.now told.0 c.in-Ok.body c.size_of_count.result c.saturating_add-size.result (length c.new-front.result.out.now) c.new-front.result.len told.1 told.2 c.size_of_count.ensures.size c.saturating_add-size.ensures fits (omega (arith, same, room)) c.new-front.ensures.len c.in-Err-put_all.ensures.told)
