use Rattle.std.proofs.Common.{ap, ◌∙◌, nat_cmp}
use Rattle.std.specs.BTreeMap.{insert_entry}
use Rattle.std.specs.Cmp.Lexicographic.{slice_cmp}
use Rattle.bser_value.specs.ValueView.{tree_of, entry_trees}
use Rattle.bser_value.proofs.Views.{pairs-insert_entry}
use Rattle.bser_value.proofs.places.put_place.Goals as goal

pub returns-in-Ok-insert : goal.returns-in-Ok-insert
returns-in-Ok-insert c =
    let es = c.args.places.now.entries in
    let value = c.in-Ok.value in
    ap entry_trees c.in-Ok-insert.ensures.entries
    ∙ pairs-insert_entry es c.in_ok-name.name value
    ∙ ap (λ k. insert_entry (slice_cmp nat_cmp) (entry_trees es) k (tree_of value)) c.in_ok-name.ensures.ok
    ∙ ap (λ t. insert_entry (slice_cmp nat_cmp) (entry_trees es) c.args.key.now t) c.in-Ok.ensures.ok
