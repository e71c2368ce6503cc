-- What a value that is no container says.
use Rattle.std.proofs.Common.{[], ◌∷◌, OnOk, refl, rules, subst}
use Rattle.std.proofs.lemmas.Int.{to_z-of_z}
use Rattle.std.specs.Int.{w64}
use mir.Val.{SFits}
use Rattle.json.specs.Token as tokens
use Rattle.bser_format.specs.Tree.{null, boolean, integer, real, bytes, text}
use Rattle.bser_json.specs.Said.{PutsSaid, Says}
use Rattle.bser_json.proofs.Saying.{one_said, same_said}
use Rattle.bser_json.proofs.Scalars.{bool_is, i64_is, real_is, text_is, bytes_is, null_is}
use Rattle.bser_json.proofs.writing.put_scalar.Goals as goal

pub returns-in-Some : goal.returns-in-Some
returns-in-Some g c u h plain =
    let v = c.in-Some.truth in
    let x = c.args.out.now in
    let y = c.token.new.self in
    same_said g.W.Write.contents c.token.result u (boolean v) x y (bool_is u v (rw c.in-Some.is at c.as_bool.ensures u h)) (one_said g.W.Write.contents c.token.result (Says (boolean v)) (tokens.boolean v ∷ []) x y refl c.token.ensures)

pub returns-in-Some-as_i64 : goal.returns-in-Some-as_i64
returns-in-Some-as_i64 g c u h plain =
    let v = c.in-Some-as_i64.number in
    let fits : SFits w64 v = search rules in
    let said : OnOk c.put_integer.result (PutsSaid g.W.Write.contents (Says (integer v)) c.args.out.now c.put_integer.new.out) =
    subst (λ n. OnOk c.put_integer.result (PutsSaid g.W.Write.contents (Says (integer n)) c.args.out.now c.put_integer.new.out)) (to_z-of_z w64 v fits) c.put_integer.ensures in
    same_said g.W.Write.contents c.put_integer.result u (integer v) c.args.out.now c.put_integer.new.out (i64_is u v (rw c.in-Some-as_i64.is at c.as_i64.ensures u h)) said

pub returns-in-Some-as_real_bits : goal.returns-in-Some-as_real_bits
returns-in-Some-as_real_bits g c u h plain =
    let v = c.in-Some-as_real_bits.bits in
    same_said g.W.Write.contents c.put_real.result u (real v) c.args.out.now c.put_real.new.out (real_is u v (rw c.in-Some-as_real_bits.is at c.as_real_bits.ensures u h)) c.put_real.ensures

pub returns-in-Some-as_str : goal.returns-in-Some-as_str
returns-in-Some-as_str g c u h plain =
    let v = c.in-Some-as_str.text.now in
    let x = c.args.out.now in
    let y = c.string.new.self in
    let r = c.string.result in
    same_said g.W.Write.contents r u (text v) x y (text_is u v (rw c.in-Some-as_str.is at c.as_str.ensures u h)) (one_said g.W.Write.contents r (Says (text v)) (tokens.string v ∷ []) x y refl c.string.ensures)

pub returns-in-Some-as_bytes : goal.returns-in-Some-as_bytes
returns-in-Some-as_bytes g c u h plain =
    let v = c.in-Some-as_bytes.bytes.now in
    same_said g.W.Write.contents c.put_bytes.result u (bytes v) c.args.out.now c.put_bytes.new.out (bytes_is u v (rw c.in_default-as_str.is at c.as_str.ensures u h) (rw c.in-Some-as_bytes.is at c.as_bytes.ensures u h)) c.put_bytes.ensures

pub returns-in-None : goal.returns-in-None
returns-in-None g c u h plain =
    let x = c.args.out.now in
    let y = c.token-in-None.new.self in
    let r = c.token-in-None.result in
    same_said g.W.Write.contents r u null x y
    (null_is u plain (rw c.in_default.is at c.as_bool.ensures u h) (rw c.in_default-as_i64.is at c.as_i64.ensures u h) (rw c.in_default-as_real_bits.is at c.as_real_bits.ensures u h) (rw c.in-None.is at c.as_bytes.ensures u h))
    (one_said g.W.Write.contents r (Says null) (tokens.null ∷ []) x y refl c.token-in-None.ensures)
