use Rattle.std.proofs.Common.{ap, ◌∙◌}
use Rattle.bser_format.specs.Tree.{text}
use Rattle.bser_events.proofs.Outcomes.{each_ok}
use Rattle.bser_value.proofs.Steps.{gives_as}
use Rattle.bser_value.proofs.Views.{tree_of-Utf8String}
use Rattle.bser_value.proofs.builder.ValueBuilder.put_text.Goals as goal

pub returns : goal.returns
returns c =
    each_ok _ _ c.put.result c.put.ensures
    (gives_as _ (text c.args.string.now) c.args.self.now c.put.new.self (tree_of-Utf8String c.in_ok-copy.copy ∙ ap text c.in_ok-copy.ensures.ok))
