-- An error of the comparison says nothing of the room, and comes of no tape.
use Rattle.std.proofs.Common.{rules, length, take}
use Rattle.bser_c.proofs.Untapes.{refused_compared}
use Rattle.bser_c.proofs.untape.message_of.Goals as goal

pub returns-in_err-compare-clause-place : goal.returns-in_err-compare-clause-place
returns-in_err-compare-clause-place c = search (rules, c.in_err-compare.ensures.place (length c.args.out.now))

pub returns-in_err-compare-clause-refused : goal.returns-in_err-compare-clause-refused
returns-in_err-compare-clause-refused c =
    search (rules, refused_compared c.args.strings.now c.args.words.now (take c.in_ok-size.size c.write.new.out) _ c.in_ok-size.ensures.told c.in_err-compare.ensures.refused c.in_err-compare.ensures.place c.in_err-compare.ensures.agreed)
