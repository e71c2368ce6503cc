-- One token after the other.
use Rattle.std.proofs.Common.{◌≡◌, None, refl, sym, subst, rules}
use Rattle.bser_document.specs.Pairs.{FindsItem}
use Rattle.bser_document.specs.Pointer.{descendant, between_slashes}
use Rattle.bser_document.proofs.Tokens.{part_cut, part_left}
use Rattle.bser_document.proofs.Paths.{one_led, led_nowhere, last_led}
use Rattle.bser_document.proofs.item.Item.descendant.Goals as goal

pub loop-token-init : goal.loop-token-init
loop-token-init c = record { text = search rules; led = λ u h. record { here = u; holds = h; same = refl } }

pub loop-token-smaller : goal.loop-token-smaller
loop-token-smaller c = (part_cut c.loop-token.rest.now (c.in-Some.token, c.in-Some.behind) c.in-Some.ensures.cases).1

pub loop-token-preserved : goal.loop-token-preserved
loop-token-preserved c =
    let cut = part_cut c.loop-token.rest.now (c.in-Some.token, c.in-Some.behind) c.in-Some.ensures.cases in
    record {
      text = search rules;
      led = λ u h. one_led u c.args.tokens.now c.loop-token.rest.now c.in-Some.token.now c.in-Some.behind.now c.loop-token.item c.in_ok-item.item cut.0 c.in_ok-item.ensures (c.loop-token.invariant.led u h);
    }

pub returns-in_err-item : goal.returns-in_err-item
returns-in_err-item c u h =
    let cut = part_cut c.loop-token.rest.now (c.in-Some.token, c.in-Some.behind) c.in-Some.ensures.cases in
    let none : c.from_residual.result ≡ None = search rules in
    subst (FindsItem (descendant (between_slashes c.args.tokens.now) u)) (sym none) (led_nowhere u c.args.tokens.now c.loop-token.rest.now c.in-Some.token.now c.in-Some.behind.now c.loop-token.item cut.0 c.in_err-item.ensures (c.loop-token.invariant.led u h))

pub returns : goal.returns
returns c u h =
    last_led u c.args.tokens.now c.loop-token.rest.now c.loop-token.item c.child-2.result (part_left c.loop-token.rest.now c.in_default.ensures.cases) c.child-2.ensures (c.loop-token.invariant.led u h)
