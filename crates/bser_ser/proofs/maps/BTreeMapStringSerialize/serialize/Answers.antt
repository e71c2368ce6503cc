use Rattle.std.proofs.Common.{◌≡◌, rules, arith, length, Ok, string_bytes}
use Rattle.std.proofs.lemmas.Result.{err_from_is_err_and}
use Rattle.bser_format.specs.Canonical.{canonical_key}
use Rattle.bser_ser.specs.Ends.{text_of}
use Rattle.bser_ser.proofs.Keys.{key_sent}
use Rattle.bser_ser.proofs.Ends.{Ends-both, Stops-second, Stops-none}
use Rattle.bser_ser.proofs.Texts.{entries_start, entries_more, entries_put, entries_writable, entries_stop}
use Rattle.bser_ser.proofs.maps.BTreeMapStringSerialize.serialize.Goals as goal

pub returns-in_err-put_text-clause-err : goal.returns-in_err-put_text-clause-err
returns-in_err-put_text-clause-err g c =
    let p = err_from_is_err_and c.from_residual-in_err-put_text.result c.from_residual-in_err-put_text.ensures.1 in
    rw (p.1, p.2) (entries_stop _ _ g.met.W.Sink.took_both c.loop-key.invariant c.in-Some.ensures.steps (Stops-none g.W.Sink _ c.loop-key.out c.put_text.new.self c.in_err-put_text.field-0.0 c.in_err-put_text.ensures.put.0 c.in_err-put_text.ensures.put.1))

pub returns-in_err-serialize-clause-err : goal.returns-in_err-serialize-clause-err
returns-in_err-serialize-clause-err g c =
    let p = err_from_is_err_and c.from_residual-in_err-serialize.result c.from_residual-in_err-serialize.ensures.1 in
    rw (p.1, p.2) (entries_stop _ _ g.met.W.Sink.took_both c.loop-key.invariant c.in-Some.ensures.steps
    (Stops-second g.W.Sink g.met.W.Sink.took_both (Ok (canonical_key (string_bytes c.in-Some.key.now))) (text_of (g.V.Serialize.meaning c.in-Some.value.now)) c.loop-key.out c.put_text.new.self c.serialize.new.out c.in_err-serialize.field-0.0 (key_sent g.W.Sink _ _ _ (rw c.as_str.ensures.value at c.in_ok-put_text.ensures.writable).0 (rw c.as_str.ensures.value at c.in_ok-put_text.ensures.put.0)) c.in_err-serialize.ensures.err))

pub loop-key-preserved : goal.loop-key-preserved
loop-key-preserved g c =
    entries_more g.met.W.Sink.took_both c.loop-key.invariant c.in-Some.ensures.steps (Ends-both g.W.Sink g.met.W.Sink.took_both (Ok (canonical_key (string_bytes c.in-Some.key.now))) (text_of (g.V.Serialize.meaning c.in-Some.value.now)) c.loop-key.out c.put_text.new.self c.serialize.new.out (key_sent g.W.Sink _ _ _ (rw c.as_str.ensures.value at c.in_ok-put_text.ensures.writable).0 (rw c.as_str.ensures.value at c.in_ok-put_text.ensures.put.0)) c.in_ok-serialize.ensures.ok) (search rules, c.in_ok-serialize.ensures.writable)

pub returns-clause-ok : goal.returns-clause-ok
returns-clause-ok g c = entries_put c.loop-key.invariant (search rules)

pub returns-clause-writable : goal.returns-clause-writable
returns-clause-writable g c = entries_writable c.loop-key.invariant (search rules) (omega (arith, c.in_ok-put_map.ensures.counted))

pub loop-key-init : goal.loop-key-init
loop-key-init g c =
    let n : c.len.result ≡ length c.args.self.now.entries = omega arith in
    entries_start (search rules) (rw n at c.in_ok-put_map.ensures.put.0)
