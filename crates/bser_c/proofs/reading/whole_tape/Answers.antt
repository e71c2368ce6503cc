-- The words that the tape has room for are those of the events that were reported.
use Rattle.std.proofs.Common.{rules, refl}
use Rattle.bser_messages.specs.Limited.{usual_limits}
use Rattle.bser_c.proofs.Tapes.{tape_counted, taped}
use Rattle.bser_c.proofs.reading.whole_tape.Goals as goal

pub returns-clause-found : goal.returns-clause-found
returns-clause-found c = λ fits.
    taped usual_limits c.args.bytes.now c.new-tape.result _ c.in_ok-header.header c.taped_of.result.size c.taped_of.result.len refl c.new-tape.ensures.len (search rules) c.in_ok-header.ensures c.taped_of.ensures.size c.taped_of.ensures.len _ _
    c.taped_of.ensures.capabilities (λ same. search rules) fits

pub returns-clause-wanted : goal.returns-clause-wanted
returns-clause-wanted c =
    tape_counted usual_limits c.args.bytes.now c.new-tape.result _ c.in_ok-header.header c.taped_of.result.size c.taped_of.result.len refl c.new-tape.ensures.len (search rules) c.in_ok-header.ensures c.taped_of.ensures.size c.taped_of.ensures.len
