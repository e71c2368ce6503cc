-- A field is a value, or a skip.
use Rattle.std.proofs.Common.{◌∙◌, ◌-◌, ◌^◌, min, ap}
use Rattle.bser_events.proofs.Outcomes.{each_ok, each_err, both_ok}
use Rattle.bser_deserializer.specs.State.{State}
use Rattle.bser_deserializer.proofs.Told.{field_from, skipped_field, field_names}
use Rattle.bser_deserializer.proofs.deserializer.Deserializer.tell_field.Goals as goal

pub returns-then-buffered-ne-BSER_SKIP-clause-found : goal.returns-then-buffered-ne-BSER_SKIP-clause-found
returns-then-buffered-ne-BSER_SKIP-clause-found g c =
    rw (← c.self.view_is)
    (each_ok _ _ c.tell_value.result c.tell_value.ensures.found
    (λ v. field_from g.B.Builder.takes c.self.inside.levels _ _ _ _ _ c.in_ok-fill.ensures.ok v))

pub returns-then-buffered-ne-BSER_SKIP-clause-names : goal.returns-then-buffered-ne-BSER_SKIP-clause-names
returns-then-buffered-ne-BSER_SKIP-clause-names g c =
    rw (← c.self.view_is)
    (each_err _ _ c.tell_value.result c.tell_value.ensures.names
    (λ h. field_names c.self.inside.levels c.buffered.result.now _ _ _ c.buffered.ensures c.in_ok-fill.ensures.ok c.if-buffered-ne-BSER_SKIP.true h))

pub returns-clause-found : goal.returns-clause-found
returns-clause-found g c =
    rw (← c.self.view_is)
    (both_ok _ _ _ c.tell.result c.tell.ensures.ok c.tell.ensures.same
    (λ told same. skipped_field g.B.Builder.takes c.self.inside.levels c.taken-start.result c.buffered.result.now _ _ _ _ _ _
    c.buffered.ensures c.in_ok-fill.ensures.ok c.consume.ensures.window c.if-buffered-ne-BSER_SKIP.false (ap (λ (z : State). z.source) same) (c.taken-start.ensures ∙ ap (λ n. min n (2 ^ 64 - 1)) c.in_ok-fill.ensures.ok.grown.count) told))
