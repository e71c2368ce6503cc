-- What is around the container that was opened.
use Rattle.std.proofs.Common.{◌∷◌, refl}
use Rattle.bser_messages.specs.Tallies.{Tally, more_values}
use Rattle.bser_messages.proofs.Tallies.{nested}
use Rattle.bser_messages.proofs.sizing.Sizing.open.Goals as goal

pub returns : goal.returns
returns c = λ m h.
    let inside : Tally = record m { around = m.level ∷ m.around } in
    c.enter.ensures (more_values 1 inside) (c.add_values.ensures inside (nested c.args.self.now _ m refl refl refl c.in_ok-push.ensures.items h))
