-- The message is that of the tree whose events the words are.
use Rattle.std.proofs.Common.{rules, refl, ap}
use Rattle.bser_messages.specs.Limited.{usual_limits}
use Rattle.bser_c.proofs.Compares.{same_told}
use Rattle.bser_c.proofs.untape.is_told.Goals as goal

pub returns-in-Some : goal.returns-in-Some
returns-in-Some c = λ yes.
    same_told usual_limits c.args.words.now c.args.strings.now c.args.message.now c.new-compared.result _ c.in-Some.header refl c.new-compared.ensures.at (ap (λ w. w.now) c.new-compared.ensures.words) (ap (λ s. s.now) c.new-compared.ensures.strings) c.in-Some.ensures (search rules)
    (c.is_same.ensures.found yes)
