use Rattle.std.proofs.Common.{subst, sym}
use Rattle.bser_events.proofs.Outcomes.{each_ok}
use Rattle.bser_value.specs.Made.{put}
use Rattle.bser_value.specs.Shows.{ShowsOpen, Turns}
use Rattle.bser_value.specs.ValueView.{tree_of}
use Rattle.bser_value.specs.declared.building.Building.TheVariants.{Template}
use Rattle.bser_value.proofs.building.Building.put.Goals as goal

pub returns-in-Template : goal.returns-in-Template
returns-in-Template c =
    each_ok _ _ c.put.result c.put.ensures (λ turns. subst (λ b. Turns ShowsOpen (put (tree_of c.args.value)) b (Template c.put.new.self)) (sym c.in-Template.is) turns)
