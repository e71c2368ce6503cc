-- Two words more, or no room for them.
use Rattle.std.proofs.Common.{rules, arith, ◌≡◌, ◌<◌, ◌+◌, ◌*◌, length, None, subst}
use Rattle.bser_c.specs.Parts.{header_of}
use Rattle.bser_c.proofs.Puts.{BeginsPut, put_begins, put_more, put_full, put_all_told}
use Rattle.bser_c.proofs.untape.put_all.Goals as goal

pub loop-i-init : goal.loop-i-init
loop-i-init c = put_begins c.args.strings.now c.args.words.now (header_of c.args.body) c.args.front.now c.put_header.new.front c.put_header.result c.in-Some.field-0 c.in-Some.is c.put_header.ensures

pub returns-in_default-put_part-clause-told : goal.returns-in_default-put_part-clause-told
returns-in_default-put_part-clause-told c =
    let h : 2 * c.loop-i.i + 1 < length c.args.words.now = search rules in
    let none : c.put_part.result ≡ None = search rules in
    λ whole told. put_full c.args.strings.now c.args.words.now (header_of c.args.body) whole (2 * c.loop-i.i) c.args.front.now c.loop-i.front c.put_part.new.front c.put_part.result c.loop-i.invariant h none c.put_part.ensures told

pub loop-i-preserved : goal.loop-i-preserved
loop-i-preserved c =
    let h : 2 * c.loop-i.i + 1 < length c.args.words.now = search rules in
    let more = put_more c.args.strings.now c.args.words.now (header_of c.args.body) (2 * c.loop-i.i) c.args.front.now c.loop-i.front c.put_part.new.front c.put_part.result c.in-Some-put_part.field-0 c.loop-i.invariant h c.in-Some-put_part.is c.put_part.ensures in
    subst (λ k. BeginsPut c.args.strings.now c.args.words.now k (header_of c.args.body) c.args.front.now c.put_part.new.front) (omega arith) more

pub returns-clause-told : goal.returns-clause-told
returns-clause-told c = put_all_told c.args.strings.now c.args.words.now (header_of c.args.body) (2 * c.loop-i.i) c.args.front.now c.loop-i.front c.loop-i.invariant (search rules)
