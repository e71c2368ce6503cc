-- A key's bytes are UTF-8, or refused.
use Rattle.std.proofs.Common.{◌∙◌, sym}
use Rattle.std.proofs.lemmas.Result.{err_from_is_err_and}
use Rattle.bser_deserializer.proofs.Strings.{took_first}
use Rattle.bser_deserializer.proofs.Templates.{no_key, key_refused, took_key, kept_refused}
use Rattle.bser_deserializer.proofs.template.take_key.Goals as goal

pub returns-then-not-is_key_tag-clause-names : goal.returns-then-not-is_key_tag-clause-names
returns-then-not-is_key_tag-clause-names g c =
    rw c.refuse.ensures.reason (no_key _ _ _ c.buffered.ensures c.in_ok-fill.ensures.ok (sym c.is_key_tag.ensures ∙ c.if-not-is_key_tag.true))

pub returns-in_err-bytes-clause-names : goal.returns-in_err-bytes-clause-names
returns-in_err-bytes-clause-names g c =
    let p = err_from_is_err_and c.from_residual-in_err-bytes.result c.from_residual-in_err-bytes.ensures.1 in
    let first = took_first _ _ _ _ c.buffered.ensures c.in_ok-fill.ensures.ok c.consume.ensures.window in
    rw p.1 (key_refused _ _ _ _ (sym c.is_key_tag.ensures ∙ c.if-not-is_key_tag.false) first c.in_err-bytes.ensures.names)

pub returns-in-Ok-clause-ok : goal.returns-in-Ok-clause-ok
returns-in-Ok-clause-ok g c =
    let first = took_first _ _ _ _ c.buffered.ensures c.in_ok-fill.ensures.ok c.consume.ensures.window in
    rw c.in-Ok.ensures.ok (took_key _ _ _ _ _ (sym c.is_key_tag.ensures ∙ c.if-not-is_key_tag.false) first c.in_ok-bytes.ensures.ok c.in-Ok.ensures.utf8)

pub returns-in-Err-clause-names : goal.returns-in-Err-clause-names
returns-in-Err-clause-names g c =
    let first = took_first _ _ _ _ c.buffered.ensures c.in_ok-fill.ensures.ok c.consume.ensures.window in
    rw c.refuse-in-Err.ensures.reason
    (kept_refused _ _ _ _ _ _ _ (sym c.is_key_tag.ensures ∙ c.if-not-is_key_tag.false) first c.in_ok-bytes.ensures.ok c.in-Err.ensures.err)
