-- The last of equal keys is kept.
use Rattle.std.proofs.Common.{◌≡◌, ◌+◌, ◌-◌, suc, Some, cond, sym, ap, ◌∙◌, arith, rules}
use Rattle.bser_format.specs.SameTree.{same_bytes}
use Rattle.bser_document.specs.Pairs.{picked}
use Rattle.bser_document.specs.Pointer.{token_text}
use Rattle.bser_document.proofs.Looks.{pairs_left, none_looked, one_looked, all_looked, none_left_to_look}
use Rattle.bser_document.proofs.entries.Entries.last_named.Goals as goal

pub loop-init : goal.loop-init
loop-init c m h =
    let all = c.len-end.ensures m h ∙ sym (pairs_left c.args.self m h) in
    none_looked (token_text c.args.token.now) c.args.self (c.len-end.result - 0) (omega (arith, all)) m h

pub loop-preserved : goal.loop-preserved
loop-preserved c m h =
    let less : c.len-end.result - c.loop.counter ≡ suc (c.len-end.result - (c.loop.counter + 1)) = omega (arith, c.loop-test.true) in
    let named : c.is_text_of-is_named.result ≡ same_bytes (token_text c.args.token.now) c.in-Some.entry.key.now = search rules in
    let is : c.pick-found.result ≡ picked (token_text c.args.token.now) c.loop.found c.in-Some.entry = c.pick-found.ensures ∙ ap (λ b. cond b (Some c.in-Some.entry.value) c.loop.found) named in
    rw is (one_looked (token_text c.args.token.now) m c.loop.rest c.next.new.self c.loop.found c.in-Some.entry (c.len-end.result - c.loop.counter) (c.len-end.result - (c.loop.counter + 1)) less c.in-Some.ensures.steps (c.loop.invariant m h))

pub returns-in-None : goal.returns-in-None
returns-in-None c m h = none_left_to_look (token_text c.args.token.now) m c.loop.rest c.next.new.self c.loop.found (c.len-end.result - c.loop.counter) c.in-None.ensures.steps (c.loop.invariant m h)

pub returns : goal.returns
returns c m h =
    let none : c.len-end.result - c.loop.counter ≡ 0 = omega (arith, c.loop-test.false) in
    all_looked (token_text c.args.token.now) m c.loop.rest c.loop.found (c.len-end.result - c.loop.counter) none (c.loop.invariant m h)
