use Rattle.std.proofs.Common.{ap, string_bytes, ◌∙◌}
use Rattle.bser_format.specs.Tree.{text}
use Rattle.bser_events.proofs.Outcomes.{each_ok}
use Rattle.bser_value.proofs.Steps.{gives_as}
use Rattle.bser_value.proofs.Views.{tree_of-Utf8String}
use Rattle.bser_value.proofs.builder.ValueBuilder.put_own_text.Goals as goal

pub returns : goal.returns
returns c =
    each_ok _ _ c.put.result c.put.ensures
    (gives_as _ (text (string_bytes c.args.string)) c.args.self.now c.put.new.self (tree_of-Utf8String c.shrink_to_fit.new.self ∙ ap text c.shrink_to_fit.ensures.bytes))
