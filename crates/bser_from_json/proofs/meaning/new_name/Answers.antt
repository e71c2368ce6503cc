-- The map is asked for the name.
use Rattle.std.proofs.Common.{ap, sym, ◌∙◌}
use Rattle.bser_from_json.specs.Made.{new_name}
use Rattle.bser_from_json.proofs.Keys.{has_same, new_is_equal, new_is_new}
use Rattle.bser_from_json.proofs.meaning.new_name.Goals as goal

pub returns-then-contains_key : goal.returns-then-contains_key
returns-then-contains_key c es h =
    let ps = c.args.entries.now.entries in
    let k = c.in_ok-name.name.now in
    ap (new_name es) c.in_ok-name.ensures ∙ new_is_equal es k (sym (has_same ps es k h) ∙ sym c.contains_key.ensures ∙ c.if-contains_key.true)

pub returns : goal.returns
returns c es h =
    let ps = c.args.entries.now.entries in
    let k = c.in_ok-name.name.now in
    ap (new_name es) c.in_ok-name.ensures ∙ new_is_new es k (sym (has_same ps es k h) ∙ sym c.contains_key.ensures ∙ c.if-contains_key.false)
