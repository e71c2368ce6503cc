-- A gap, and a value is due.
use Rattle.std.proofs.Common.{◌≡◌, ◌++◌, List, ℕ, length, ap, ◌∙◌, append-nil}
use Rattle.bser_source.specs.Memory.{bytes_in}
use Rattle.bser_draft.specs.Begun.{put_in}
use Rattle.bser_draft.proofs.Whole.{begun_new}
use Rattle.bser_draft.proofs.draft.Draft.new.Goals as goal

pub invariant_of-result : goal.invariant_of-result
invariant_of-result c =
    let gap : List ℕ = c.in_ok-gap.gap.items in
    let out = c.new-2.result in
    let all : put_in out ≡ gap = ap (λ x. bytes_in x ++ out.pending.items) c.new-2.ensures.0 ∙ ap (λ x. x ++ out.pending.items) c.new.ensures.bytes
    ∙ ap (λ x. gap ++ x) c.new-2.ensures.1 ∙ append-nil gap in
    record { begun = begun_new c.new-3.result (put_in out) (ap length all ∙ c.in_ok-gap.ensures) c.new-3.ensures }
