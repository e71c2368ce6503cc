-- The words that the tape has room for are those of the events that were reported.
use Rattle.std.proofs.Common.{rules}
use Rattle.bser_c.proofs.Tapes.{tape_counted, taped}
use Rattle.bser_c.proofs.reading.tape_slowly.Goals as goal

pub returns-in-Ok-clause-found : goal.returns-in-Ok-clause-found
returns-in-Ok-clause-found c = λ fits.
    taped c.new.result c.args.bytes.now c.new-tape.result c.from_slice-answer.new.builder c.in-Ok.header c.taped_of.result.size c.taped_of.result.len c.new.ensures.levels c.new-tape.ensures.len (search rules) c.in-Ok.ensures.found
    c.taped_of.ensures.size c.taped_of.ensures.len _ _ c.taped_of.ensures.capabilities (λ same. search rules) fits

pub returns-in-Ok-clause-wanted : goal.returns-in-Ok-clause-wanted
returns-in-Ok-clause-wanted c =
    tape_counted c.new.result c.args.bytes.now c.new-tape.result c.from_slice-answer.new.builder c.in-Ok.header c.taped_of.result.size c.taped_of.result.len c.new.ensures.levels c.new-tape.ensures.len (search rules) c.in-Ok.ensures.found c.taped_of.ensures.size
    c.taped_of.ensures.len
