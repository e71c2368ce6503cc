use Rattle.std.proofs.Common.{ap, ◌∙◌}
use Rattle.bser_format.specs.Tree.{bytes}
use Rattle.bser_events.proofs.Outcomes.{each_ok}
use Rattle.bser_value.proofs.Steps.{gives_as}
use Rattle.bser_value.proofs.Views.{tree_of-ByteString}
use Rattle.bser_value.proofs.builder.ValueBuilder.put_own_bytes.Goals as goal

pub returns : goal.returns
returns c =
    each_ok _ _ c.put.result c.put.ensures
    (gives_as _ (bytes c.args.string.items) c.args.self.now c.put.new.self (tree_of-ByteString c.from_vec.result ∙ ap bytes (c.from_vec.ensures ∙ c.shrink_to_fit.ensures.items)))
