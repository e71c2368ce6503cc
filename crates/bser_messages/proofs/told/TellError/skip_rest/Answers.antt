-- The rest of a message that was passed over.
use Rattle.std.proofs.Common.{rules, ap, sym, ◌∙◌}
use Rattle.bser_messages.proofs.Skips.{took_rest}
use Rattle.bser_messages.proofs.told.TellError.skip_rest.Goals as goal

pub returns-in-Ok-clause-skipped : goal.returns-in-Ok-clause-skipped
returns-in-Ok-clause-skipped g c =
    let fresh = c.new-bunser.ensures.window ∙ c.new.ensures.window in
    took_rest c.in-Some.rest _ _ _ _ _ _ _ (sym c.rest.ensures ∙ c.in-Some.is) (ap (λ w. w.buffered) fresh) (ap (λ w. w.limit) fresh) (ap (λ w. w.beyond) fresh) (search rules) (ap (λ w. w.failures) fresh) (search rules) c.in-Ok.ensures.ok
