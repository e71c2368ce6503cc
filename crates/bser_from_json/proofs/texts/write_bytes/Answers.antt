-- What the writer took of the bytes.
use Rattle.std.proofs.Common.{◌≡◌, ◌++◌, rules}
use Rattle.bser_from_json.proofs.Writing.{all_written, breaks_there, more_written, none_written, nothing_appended}
use Rattle.bser_from_json.proofs.texts.write_bytes.Goals as goal

pub loop-rest-init : goal.loop-rest-init
loop-rest-init g c = none_written c.args.bytes.now (g.W.Write.contents c.args.out.now)

pub loop-rest-preserved : goal.loop-rest-preserved
loop-rest-preserved g c =
    let contents = g.W.Write.contents in
    let rest = c.loop-rest.rest.now in
    let taken = c.split_at.result.0.now in
    let behind = c.split_at.result.1.now in
    let cut : rest ≡ taken ++ behind = c.split_at.ensures.by_index.0 in
    more_written c.args.bytes.now rest taken behind (contents c.args.out.now) (contents c.loop-rest.out) (contents c.write.new.self) c.loop-rest.invariant cut (search rules)

pub returns-in-Err : goal.returns-in-Err
returns-in-Err g c =
    let contents = g.W.Write.contents in
    breaks_there c.args.bytes.now c.loop-rest.rest.now (contents c.args.out.now) (contents c.loop-rest.out) (contents c.write.new.self) c.loop-rest.invariant (nothing_appended (contents c.loop-rest.out) (contents c.write.new.self) c.in-Err.ensures.bytes)

pub returns : goal.returns
returns g c =
    let contents = g.W.Write.contents in
    all_written c.args.bytes.now c.loop-rest.rest.now (contents c.args.out.now) (contents c.loop-rest.out) c.is_empty.result c.loop-rest.invariant c.is_empty.ensures c.loop-rest-test.false
