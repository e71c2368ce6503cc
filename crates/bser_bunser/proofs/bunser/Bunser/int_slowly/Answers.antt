use Rattle.std.proofs.Common.{rules, subst}
use Rattle.bser_bunser.specs.Tagged.{LooksForInt}
use Rattle.bser_bunser.proofs.Faults.{no_int_place}
use Rattle.bser_bunser.proofs.Ints.{no_int_names}
use Rattle.bser_bunser.proofs.bunser.Bunser.int_slowly.Goals as goal

pub returns-in-Unexpected-clause-refused : goal.returns-in-Unexpected-clause-refused
returns-in-Unexpected-clause-refused g c =
    let a = c.args.self.now.window in
    let b = c.next_int_slowly.new.self.window in
    let names = no_int_names c.in-Unexpected.why a b (subst (LooksForInt a b) c.in-Unexpected.is c.in_ok-number.ensures.ok) in
    record { err = search rules; names = rw c.refuse_unexpected.ensures.reason names; memory = c.refuse_unexpected.ensures.memory }

pub returns-in-Unexpected-clause-place : goal.returns-in-Unexpected-clause-place
returns-in-Unexpected-clause-place g c =
    let a = c.args.self.now.window in
    let b = c.next_int_slowly.new.self.window in
    rw c.refuse_unexpected.ensures.reason (no_int_place c.in-Unexpected.why a b _ (subst (LooksForInt a b) c.in-Unexpected.is c.in_ok-number.ensures.ok) c.refuse_unexpected.ensures.state)
