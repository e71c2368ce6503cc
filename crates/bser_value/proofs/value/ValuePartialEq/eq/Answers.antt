use Rattle.std.proofs.Common.{◌∙◌, sym}
use Rattle.bser_format.proofs.Same.{same_tree_decides}
use Rattle.bser_value.specs.ValueView.{tree_of}
use Rattle.bser_value.proofs.value.ValuePartialEq.eq.Goals as goal

pub returns-clause-content : goal.returns-clause-content
returns-clause-content c =
    let decides = same_tree_decides (tree_of c.args.self.now) (tree_of c.args.other.now) in
    (λ h. decides.0 (sym c.is_same.ensures ∙ h), λ e. c.is_same.ensures ∙ decides.1 e)
