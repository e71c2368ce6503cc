-- A key leads into an object, and an index into an array.
use Rattle.std.proofs.Common.{◌≡◌, None, sym, subst, rules}
use Rattle.bser_document.specs.Pairs.{FindsItem}
use Rattle.bser_document.specs.Pointer.{child, token_text}
use Rattle.bser_document.proofs.Looks.{found_in}
use Rattle.bser_document.proofs.Paths.{entry_led, item_led, no_item_led, no_array_led}
use Rattle.bser_document.proofs.item.Item.child.Goals as goal

pub returns-in-Some : goal.returns-in-Some
returns-in-Some c u h =
    let found = c.in-Some.ensures u h in
    entry_led c.args.token.now u c.in-Some.entries c.last_named.result found (found_in (token_text c.args.token.now) u c.in-Some.entries c.last_named.result found c.last_named.ensures)

pub returns-in_err-len-in-None : goal.returns-in_err-len-in-None
returns-in_err-len-in-None c u h =
    let none : c.from_residual.result ≡ None = search rules in
    subst (FindsItem (child c.args.token.now u)) (sym none) (no_array_led c.args.token.now u (c.in_err-len-in-None.ensures u h) (c.in-None.ensures u h))

pub returns-in_err-index_of-in-None : goal.returns-in_err-index_of-in-None
returns-in_err-index_of-in-None c u h =
    let none : c.from_residual-in_err-index_of-in-None.result ≡ None = search rules in
    subst (FindsItem (child c.args.token.now u)) (sym none) (no_item_led c.args.token.now u c.in_ok-len-in-None.field-0 (c.in_ok-len-in-None.ensures u h) c.in_err-index_of-in-None.ensures)

pub returns-in_ok-index_of-in-None : goal.returns-in_ok-index_of-in-None
returns-in_ok-index_of-in-None c u h =
    item_led c.args.token.now u c.in_ok-index_of-in-None.field-0 c.at.result c.in_ok-index_of-in-None.ensures.1 c.in_ok-index_of-in-None.ensures.0 (c.in-None.ensures u h) (c.at.ensures u h)
