use Rattle.std.proofs.Common.{◌≡◌, ◌<◌, ◌^◌, rules, arith}
use Rattle.std.specs.Prelude.{pos}
use Rattle.std.specs.Int.{w64}
use mir.Val.{to_z}
use Rattle.std.proofs.lemmas.Int.{ints}
use Rattle.bser_bunser.proofs.Heads.{took_head, head_four_names, head_size_names}
use Rattle.std.proofs.lemmas.Result.{err_from_is_err_and}
use Rattle.bser_bunser.proofs.bunser.Bunser.take_head.Goals as goal

pub returns-clause-ok : goal.returns-clause-ok
returns-clause-ok g c =
    let len = c.in_ok-len.len in
    let same : to_z w64 len ≡ pos len = omega (arith, ints, c.in_ok-len.ensures.fits) in
    let small : c.in_ok-bser_capabilities.bser_capabilities < 2 ^ 32 = search rules in
    took_head _ _ _ _ _ _ len _ same small c.in_ok-read_magic.ensures.ok c.in_ok-bser_capabilities.ensures.ok c.in_ok-len.ensures.ok c.announce.ensures.window

pub returns-in_err-bser_capabilities-clause-refused : goal.returns-in_err-bser_capabilities-clause-refused
returns-in_err-bser_capabilities-clause-refused g c =
    let p = err_from_is_err_and c.from_residual-in_err-bser_capabilities.result c.from_residual-in_err-bser_capabilities.ensures.1 in
    let no = c.in_err-bser_capabilities.ensures.refused in
    rw p.1 (record { err = search rules; names = head_four_names _ _ _ c.in_ok-read_magic.ensures.ok no.names; memory = no.memory })

pub returns-in_err-len-clause-refused : goal.returns-in_err-len-clause-refused
returns-in_err-len-clause-refused g c =
    let p = err_from_is_err_and c.from_residual-in_err-len.result c.from_residual-in_err-len.ensures.1 in
    let no = c.in_err-len.ensures.refused in
    let names = head_size_names c.in_ok-bser_capabilities.bser_capabilities _ _ _ _ c.in_ok-read_magic.ensures.ok c.in_ok-bser_capabilities.ensures.ok no.names in
    rw p.1 (record { err = search rules; names = names; memory = no.memory })
