use Rattle.std.proofs.Common.{refl, subst, get_or}
use Rattle.bser_bunser.specs.Prefixes.{IsLengthPrefix}
use Rattle.bser_bunser.specs.declared.prefix.Prefix.TheVariants.{Short, Unexpected}
use Rattle.bser_bunser.proofs.Faults.{counted_stands}
use Rattle.bser_bunser.proofs.Ints.{first_is, all_after}
use Rattle.bser_bunser.proofs.Tokens.{short_counted, none_counted}
use Rattle.bser_bunser.proofs.prefix.counted_prefix.Goals as goal

pub returns-in-Short : goal.returns-in-Short
returns-in-Short c =
    let held = c.args.bytes.now in
    let is = subst (λ l. IsLengthPrefix l (Short c.in-Short.need)) (all_after held) c.in-Short.ensures in
    short_counted (get_or held 0 0) c.in-Short.need held (first_is held (get_or held 0 0) c.requires.some refl) c.requires.counted is

pub returns-in-Unexpected : goal.returns-in-Unexpected
returns-in-Unexpected c =
    let held = c.args.bytes.now in
    let is = subst (λ l. IsLengthPrefix l (Unexpected c.in-Unexpected.why)) (all_after held) c.in-Unexpected.ensures in
    rw c.fault.ensures (none_counted (get_or held 0 0) c.in-Unexpected.why held c.requires.some (first_is held (get_or held 0 0) c.requires.some refl) c.requires.counted is, counted_stands (get_or held 0 0) c.in-Unexpected.why held is)
