use Rattle.std.proofs.Common.{option_map, sym, ap, ◌∙◌}
use Rattle.bser_value.specs.Contents.{get}
use Rattle.bser_value.specs.ValueView.{tree_of}
use Rattle.bser_value.proofs.Views.{tree_of-Object}
use Rattle.bser_value.proofs.Lookups.{tree_of-ref, tree_of-lookup}
use Rattle.bser_value.proofs.value.Value.get.Goals as goal

pub returns-in-Object : goal.returns-in-Object
returns-in-Object c =
    let key = c.args.key.now in
    let entries = c.in-Object.entries in
    tree_of-ref c.get.result
    ∙ ap (option_map tree_of) c.get.ensures.value
    ∙ tree_of-lookup key entries.entries
    ∙ sym (ap (get key) (ap tree_of c.in-Object.is ∙ tree_of-Object entries))
