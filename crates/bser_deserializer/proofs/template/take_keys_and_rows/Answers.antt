-- The keys, and then the number of rows.
use Rattle.std.proofs.Common.{◌≡◌, ap, arith, [], length, map, ◌<◌, vec_len, inl, inr, rules}
use Rattle.std.proofs.lemmas.Result.{err_from_is_err_and}
use Rattle.bser_format.specs.Named.{and_then}
use Rattle.bser_deserializer.specs.Reading.{owned}
use Rattle.bser_deserializer.specs.Templates.{keys_after_number, keys_and_rows}
use Rattle.bser_deserializer.proofs.Templates.{rows_refused, rows_without_keys, took_keys_and_rows, took_count, no_keys, some_keys}
use Rattle.bser_deserializer.proofs.Refusals.{names_by_more}
use Rattle.bser_deserializer.proofs.template.take_keys_and_rows.Goals as goal

pub returns-in_err-keys-clause-names : goal.returns-in_err-keys-clause-names
returns-in_err-keys-clause-names g c =
    let p = err_from_is_err_and c.from_residual.result c.from_residual.ensures.1 in
    rw p.1 (names_by_more owned keys_and_rows keys_after_number _ _ (λ f x q. ap (and_then _) q) c.in_err-keys.ensures.names)

pub returns-in_err-rows-clause-names : goal.returns-in_err-rows-clause-names
returns-in_err-rows-clause-names g c =
    let p = err_from_is_err_and c.from_residual-in_err-rows.result c.from_residual-in_err-rows.ensures.1 in
    rw p.1 (rows_refused _ _ _ _ c.in_ok-keys.ensures.ok c.in_err-rows.ensures.refused.names)

pub returns-then-rows-ne0-clause-names : goal.returns-then-rows-ne0-clause-names
returns-then-rows-ne0-clause-names g c =
    let none : length c.in_ok-keys.keys.items ≡ 0 = search rules in
    let empty : map g.R.Lent.Lending.kept c.in_ok-keys.keys.items ≡ [] = no_keys _ _ none in
    rw (c.refuse.ensures.reason, c.de_custom.ensures) (rows_without_keys _ _ _ _ _ c.in_ok-keys.ensures.ok (took_count _ _ _ c.in_ok-rows.ensures.ok) empty c.if-rows-ne0.true)

pub returns-clause-ok : goal.returns-clause-ok
returns-clause-ok g c = took_keys_and_rows _ _ _ _ _ c.in_ok-keys.ensures.ok (took_count _ _ _ c.in_ok-rows.ensures.ok) (λ empty. elim c.else-is_empty.either [
  | inl h ↦ h.1
  | inr h ↦ (let none = some_keys g.R.Lent.Lending.kept c.in_ok-keys.keys.items empty in let some : 0 < vec_len c.in_ok-keys.keys = search rules in absurd (omega (arith, none, some)))
])
