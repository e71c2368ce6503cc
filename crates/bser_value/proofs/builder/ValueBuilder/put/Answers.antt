use Rattle.std.proofs.Common.{refl}
use Rattle.bser_events.proofs.Outcomes.{each_ok}
use Rattle.bser_value.specs.Made.{put}
use Rattle.bser_value.specs.ValueView.{tree_of}
use Rattle.bser_value.proofs.Steps.{inside_turns}
use Rattle.bser_value.proofs.builder.ValueBuilder.put.Goals as goal

pub returns : goal.returns
returns c = each_ok _ _ c.put.result c.put.ensures (inside_turns (put (tree_of c.args.value)) c.args.self.now _ refl)
