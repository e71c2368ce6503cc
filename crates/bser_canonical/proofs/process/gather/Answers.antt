use Rattle.std.proofs.Common.{rules}
use Rattle.bser_canonical.proofs.Words.{no_words, one_word, two_words}
use Rattle.bser_canonical.proofs.process.gather.Goals as goal

pub returns-in_default : goal.returns-in_default
returns-in_default g c = no_words _ _ c.new-args.result.items c.in_ok-first.ensures c.in_default.is (search rules)

pub returns-in_default-2 : goal.returns-in_default-2
returns-in_default-2 g c = one_word _ _ _ c.push.new.self.items c.in-Some.first c.in_ok-first.ensures c.in-Some.is c.in_ok-second.ensures c.in_default-2.is (search rules)

pub returns : goal.returns
returns g c = two_words _ _ _ c.push-2.new.self.items c.in-Some.first c.in-Some-2.second c.in_ok-first.ensures c.in-Some.is c.in_ok-second.ensures c.in-Some-2.is (search rules)
