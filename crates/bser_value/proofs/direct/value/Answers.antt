-- A value behind its token.
use Rattle.std.proofs.Common.{rules, subst, sym}
use Rattle.bser_events.specs.Found.{IsContainer}
use Rattle.bser_value.specs.Direct.{ReadsRest}
use Rattle.bser_events.proofs.Binds.{each_some}
use Rattle.bser_events.proofs.AtStart.{behind}
use Rattle.bser_value.proofs.Joins.{token_reads, null_reads, bool_reads, int_reads, real_reads}
use Rattle.bser_value.proofs.direct.value.Goals as goal

pub returns-in-Null : goal.returns-in-Null
returns-in-Null g c = null_reads c.args.levels c.in-Found.token c.in-Found.len c.args.bytes.now c.in-Found.ensures c.in-Null.is

pub returns-in-Bool : goal.returns-in-Bool
returns-in-Bool g c = bool_reads c.args.levels c.in-Found.token c.in-Found.len c.args.bytes.now c.in-Bool.truth c.in-Found.ensures c.in-Bool.is

pub returns-in-Int : goal.returns-in-Int
returns-in-Int g c = int_reads c.args.levels c.in-Found.token c.in-Found.len c.args.bytes.now c.in-Int.number _ c.in-Found.ensures c.in-Int.is (search rules)

pub returns-in-Real : goal.returns-in-Real
returns-in-Real g c = real_reads c.args.levels c.in-Found.token c.in-Found.len c.args.bytes.now c.in-Real.bits c.in-Found.ensures c.in-Real.is

pub returns-in-Str : goal.returns-in-Str
returns-in-Str g c =
    each_some _ _ c.string.result c.string.ensures
    (λ r h. token_reads c.args.levels c.in-Found.token c.in-Found.len c.args.bytes.now r.rest.now r.value c.in-Found.ensures (λ is. absurd (subst IsContainer c.in-Str.is is))
    (subst (λ k. ReadsRest c.args.levels k (behind c.in-Found.len c.args.bytes.now) r.value r.rest.now) (sym c.in-Str.is) (h c.args.levels)))

pub returns-in_default-token : goal.returns-in_default-token
returns-in_default-token g c =
    each_some _ _ c.container.result c.container.ensures
    (λ r h. token_reads c.args.levels c.in-Found.token c.in-Found.len c.args.bytes.now r.rest.now r.value c.in-Found.ensures (λ is. h.0) h.1)
