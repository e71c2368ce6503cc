-- A text that is put is its key.
use Rattle.std.proofs.Common.{◌≡◌, ◌++◌, sym, subst, IfOk}
use Rattle.bser_ser.proofs.Keys.{key_of_text}
use Rattle.bser_from_json.proofs.body.with_key.Goals as goal

pub returns-clause-put : goal.returns-clause-put
returns-clause-put c = subst (λ k. IfOk c.with.result (λ all. all.items ≡ c.args.bytes.items ++ k)) (sym (key_of_text c.args.key.now c.utf8.key)) c.with.ensures.ok
