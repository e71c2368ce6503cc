-- The length of the body is there, and the place is behind it.
use Rattle.bser_c.proofs.Headers.{always_found, found_place}
use Rattle.bser_c.proofs.place_in_head.Goals as goal

pub returns-in-Found : goal.returns-in-Found
returns-in-Found c =
    let f = found_place c.args.bytes.now c.args.error.now c.in-Found.value c.in-Found.len c.requires c.in_default.not-DeInvalidMagic c.in_default.not-DeInvalidStartByte c.in-Found.ensures in
    record { place = f.0; within = f.1 }

pub returns-in_default-int_prefix : goal.returns-in_default-int_prefix
returns-in_default-int_prefix c =
    absurd (always_found c.args.bytes.now c.args.error.now c.int_prefix.result c.requires c.in_default.not-DeInvalidMagic c.in_default.not-DeInvalidStartByte c.int_prefix.ensures c.in_default-int_prefix.not-Found)
