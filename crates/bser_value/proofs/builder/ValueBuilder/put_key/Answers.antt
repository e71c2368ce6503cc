use Rattle.std.proofs.Common.{refl}
use Rattle.bser_events.proofs.Outcomes.{each_ok}
use Rattle.bser_value.specs.Made.{named}
use Rattle.bser_value.proofs.Steps.{inside_turns}
use Rattle.bser_value.proofs.builder.ValueBuilder.put_key.Goals as goal

pub returns : goal.returns
returns c = each_ok _ _ c.put_key.result c.put_key.ensures (inside_turns (named c.args.key.now) c.args.self.now _ refl)
