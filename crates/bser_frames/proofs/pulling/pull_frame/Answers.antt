use Rattle.std.proofs.Common.{rules, arith, ◌≡◌, ◌≤◌, length, subst}
use Rattle.bser_messages.specs.Lengths.{HasLength}
use Rattle.bser_frames.specs.Headers.{IsHeaderLength}
use Rattle.bser_frames.proofs.Additions.{reads_then}
use Rattle.bser_frames.proofs.Dues.{announced_there, body_due, header_fits, whole_frame, within}
use Rattle.bser_frames.proofs.pulling.pull_frame.Goals as goal

pub overflow_sub-announced : goal.overflow_sub-announced
overflow_sub-announced g c =
    let buf = c.pull_header.new.buffer.bytes in
    let h : HasLength buf c.in-Some.length = search rules in
    header_fits buf c.in-Some.length c.header_length.result h (subst (λ l. IsHeaderLength l c.header_length.result) c.as_slice.ensures c.header_length.ensures)

pub pull_until-requires : goal.pull_until-requires
pull_until-requires g c =
    let buf = c.pull_header.new.buffer.bytes in
    let h : HasLength buf c.in-Some.length = search rules in
    record { within = within c.args.most buf c.in-Some.length c.pull_header.ensures.due h }

pub returns-in_err-pull_until-clause-came : goal.returns-in_err-pull_until-clause-came
returns-in_err-pull_until-clause-came g c = reads_then _ _ _ _ _ _ c.pull_header.ensures.came c.pull_until.ensures.came

pub returns-then-branch-clause-came : goal.returns-then-branch-clause-came
returns-then-branch-clause-came g c = reads_then _ _ _ _ _ _ c.pull_header.ensures.came c.pull_until.ensures.came

pub returns-clause-came : goal.returns-clause-came
returns-clause-came g c = reads_then _ _ _ _ _ _ c.pull_header.ensures.came c.pull_until.ensures.came

pub returns-in_err-pull_until-clause-due : goal.returns-in_err-pull_until-clause-due
returns-in_err-pull_until-clause-due g c =
    let buf = c.pull_header.new.buffer.bytes in
    let h : HasLength buf c.in-Some.length = search rules in
    let s = subst (λ l. IsHeaderLength l c.header_length.result) c.as_slice.ensures c.header_length.ensures in
    let short : h.announced ≤ c.args.most = omega (arith, announced_there buf c.in-Some.length c.header_length.result h s, c.if-announced-most.false) in
    body_due c.args.most c.in-Some.length _ _ buf c.pull_until.new.buffer.bytes h short c.pull_until.ensures.came c.pull_until.ensures.short

pub returns-then-branch-clause-due : goal.returns-then-branch-clause-due
returns-then-branch-clause-due g c =
    let buf = c.pull_header.new.buffer.bytes in
    let h : HasLength buf c.in-Some.length = search rules in
    let s = subst (λ l. IsHeaderLength l c.header_length.result) c.as_slice.ensures c.header_length.ensures in
    let short : h.announced ≤ c.args.most = omega (arith, announced_there buf c.in-Some.length c.header_length.result h s, c.if-announced-most.false) in
    body_due c.args.most c.in-Some.length _ _ buf c.pull_until.new.buffer.bytes h short c.pull_until.ensures.came c.pull_until.ensures.short

pub returns-clause-due : goal.returns-clause-due
returns-clause-due g c =
    let buf = c.pull_header.new.buffer.bytes in
    let h : HasLength buf c.in-Some.length = search rules in
    let s = subst (λ l. IsHeaderLength l c.header_length.result) c.as_slice.ensures c.header_length.ensures in
    let short : h.announced ≤ c.args.most = omega (arith, announced_there buf c.in-Some.length c.header_length.result h s, c.if-announced-most.false) in
    body_due c.args.most c.in-Some.length _ _ buf c.pull_until.new.buffer.bytes h short c.pull_until.ensures.came c.pull_until.ensures.short

pub returns-then-branch-clause-whole : goal.returns-then-branch-clause-whole
returns-then-branch-clause-whole g c = λ _.
    let buf = c.pull_header.new.buffer.bytes in
    let h : HasLength buf c.in-Some.length = search rules in
    let s = subst (λ l. IsHeaderLength l c.header_length.result) c.as_slice.ensures c.header_length.ensures in
    let short : h.announced ≤ c.args.most = omega (arith, announced_there buf c.in-Some.length c.header_length.result h s, c.if-announced-most.false) in
    let all : length c.pull_until.new.buffer.bytes ≡ c.in-Some.length = search rules in
    whole_frame c.args.most c.in-Some.length _ _ buf c.pull_until.new.buffer.bytes h short c.pull_until.ensures.came all
