use Rattle.std.proofs.Common.{subst, sym}
use Rattle.bser_events.proofs.Outcomes.{each_ok}
use Rattle.bser_value.specs.Made.{named}
use Rattle.bser_value.specs.Shows.{ShowsOpen, Turns}
use Rattle.bser_value.specs.declared.building.Building.TheVariants.{Template}
use Rattle.bser_value.proofs.building.Building.put_key.Goals as goal

pub returns-in-Template : goal.returns-in-Template
returns-in-Template c =
    each_ok _ _ c.put_key.result c.put_key.ensures (λ turns. subst (λ b. Turns ShowsOpen (named c.args.text.now) b (Template c.put_key.new.self)) (sym c.in-Template.is) turns)
