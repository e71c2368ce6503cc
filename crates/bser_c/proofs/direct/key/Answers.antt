-- The bytes behind the head are the key.
use Rattle.std.proofs.Common.{rules, arith, ◌+◌, refl}
use Rattle.bser_events.proofs.Binds.{each_some}
use Rattle.bser_c.proofs.Whole.{answers, key_told}
use Rattle.bser_c.proofs.direct.key.Goals as goal

pub returns-clause-told : goal.returns-clause-told
returns-clause-told g c =
    answers c.tell.result (c.in_ok-token.field-0.end + c.in-Str.len) _ c.tell.ensures.taken c.tell.ensures.end
    (λ taken. key_told g.B.Builder.takes c.args.bytes.now (search rules) _ c.in-Str.is_text c.in-Str.len c.args.start c.in_ok-token.field-0.end _ _ _ _ c.in_ok-token.ensures c.in-Str.is (omega (arith, c.if-bytes-at.false)) refl c.in_ok-key.ensures.0
    c.in_ok-key.ensures.1 taken)

pub returns-clause-within : goal.returns-clause-within
returns-clause-within g c = (let within = c.in_ok-token.ensures.within in each_some _ _ c.tell.result c.tell.ensures.end (λ to is. omega (arith, is, within, c.if-bytes-at.false)))
