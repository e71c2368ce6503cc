-- The keys of all rows.
use Rattle.std.proofs.Common.{◌+◌, ◌*◌, None, refl, ap, subst, ◌∙◌}
use Rattle.std.specs.Prelude.{unwrap_or}
use Rattle.bser_messages.specs.Sizes.{capped}
use Rattle.bser_messages.specs.Tallies.{Tally, Shows, entered, more_values}
use Rattle.bser_messages.proofs.Tallies.{rows_shown}
use Rattle.bser_messages.proofs.sizing.Sizing.add_rows.Goals as goal

pub returns : goal.returns
returns c = λ m h.
    let n = c.args.count in
    let old = c.args.self.now in
    let counted : Tally = more_values n (record m { keys = m.keys + unwrap_or m.template 0 * n; template = None }) in
    let keys = c.unwrap_or-keys.ensures ∙ ap (λ o. unwrap_or o 0) c.take.ensures.value in
    let bytes = c.saturating_mul-bytes.ensures ∙ ap (λ k. capped (k * n)) keys in
    let sum = c.saturating_add-self.ensures ∙ ap (λ b. capped (old.size.key_bytes + b)) bytes in
    subst (λ levels. Shows c.enter.new.self (entered levels counted)) c.min.ensures
    (c.enter.ensures counted (c.add_values.ensures _ (rows_shown old _ m n refl sum refl c.take.ensures.after refl refl h)))
