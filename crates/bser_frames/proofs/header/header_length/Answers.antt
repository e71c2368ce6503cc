use Rattle.std.proofs.Common.{arith, ◌≤◌, length, subst}
use Rattle.bser_bunser.specs.declared.prefix.Prefix.TheVariants.{Found}
use Rattle.bser_bunser.specs.declared.prefix.Prefix.TheVariants as prefixes
use Rattle.bser_bunser.specs.Prefixes.{IsLengthPrefix}
use Rattle.bser_frames.proofs.HeaderLengths.{from_seventh, found_length, no_length}
use Rattle.bser_frames.proofs.header.header_length.Goals as goal

pub returns-in-Found : goal.returns-in-Found
returns-in-Found c =
    let bytes = c.args.bytes.now in
    let long : 6 ≤ length bytes = omega (arith, c.if-bytes-lt-BEFORE_LENGTH.false) in
    found_length bytes c.in-Found.value c.in-Found.len long
    (subst (λ l. IsLengthPrefix l (Found c.in-Found.value c.in-Found.len)) (from_seventh bytes) c.in-Found.ensures)

pub returns-in-Unexpected : goal.returns-in-Unexpected
returns-in-Unexpected c =
    let bytes = c.args.bytes.now in
    let long : 6 ≤ length bytes = omega (arith, c.if-bytes-lt-BEFORE_LENGTH.false) in
    no_length bytes c.in-Unexpected.field-0 long
    (subst (λ l. IsLengthPrefix l (prefixes.Unexpected c.in-Unexpected.field-0)) (from_seventh bytes) c.in-Unexpected.ensures)
