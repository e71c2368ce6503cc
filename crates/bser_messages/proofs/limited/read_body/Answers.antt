-- A message whose head or value is refused, or whose body is too long.
use Rattle.std.proofs.Common.{arith}
use Rattle.std.proofs.lemmas.Int.{ints}
use Rattle.std.proofs.lemmas.Result.{err_from_is_err_and}
use Rattle.bser_deserializer.proofs.Openings.{if_err, if_ok}
use Rattle.bser_messages.proofs.Messages.{head_came}
use Rattle.bser_messages.proofs.Within.{head_refused_within, value_refused_within, body_read}
use Rattle.bser_messages.proofs.limited.read_body.Goals as goal

pub returns-in_err-read_head-clause-refused : goal.returns-in_err-read_head-clause-refused
returns-in_err-read_head-clause-refused g c =
    let p = err_from_is_err_and c.from_residual.result c.from_residual.ensures.1 in
    rw p.1 (head_refused_within c.args.limits.levels c.args.limits.bytes g.T.Shape.reads g.T.Shape.asks g.T.Shape.needs _ _ _ c.in_err-read_head.ensures.err c.in_err-read_head.ensures.names)

pub returns-clause-found : goal.returns-clause-found
returns-clause-found g c =
    let old = c.args.from.now.state in
    let begun = c.read_head.new.self.state in
    let new = c.deserialize.new.from.state in
    let begins = c.in_ok-read_head.ensures.ok in
    if_ok _ _ c.deserialize.result (λ v u. body_read c.args.limits.levels c.args.limits.bytes _ g.T.Shape.reads g.T.Shape.holds old.source begun new v begins (omega (arith, ints, begins.took.value, c.body_length-announced.ensures)) c.if-announced-limits.false u) c.deserialize.ensures.found

pub returns-clause-refused : goal.returns-clause-refused
returns-clause-refused g c =
    let old = c.args.from.now.state in
    let begun = c.read_head.new.self.state in
    let new = c.deserialize.new.from.state in
    let begins = c.in_ok-read_head.ensures.ok in
    if_err _ _ c.deserialize.result (λ u. value_refused_within c.args.limits.levels c.args.limits.bytes _ g.T.Shape.reads g.T.Shape.asks g.T.Shape.needs _ old.source begun new begins (omega (arith, ints, begins.took.value, c.body_length-announced.ensures)) c.if-announced-limits.false u) c.deserialize.ensures.refused

pub returns-clause-head : goal.returns-clause-head
returns-clause-head g c =
    let old = c.args.from.now.state in
    let begun = c.read_head.new.self.state in
    if_err _ _ c.deserialize.result (λ u memory. head_came c.args.limits.levels old.source begun c.in_ok-read_head.ensures.ok) c.deserialize.ensures.refused
