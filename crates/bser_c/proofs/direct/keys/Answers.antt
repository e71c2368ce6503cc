-- One key more.
use Rattle.std.proofs.Common.{[], ◌∷◌, ◌+◌, ◌-◌, arith}
use Rattle.bser_format.specs.Named.{text_of}
use Rattle.bser_format.specs.declared.errors.Kind.TheVariants.{TemplateKey}
use Rattle.bser_events.specs.Events.{key, key_events}
use Rattle.bser_c.proofs.Between.{on_begin, on_step, on_end}
use Rattle.bser_c.proofs.Containers.{keys_fold}
use Rattle.bser_c.proofs.direct.keys.Goals as goal

pub loop-init : goal.loop-init
loop-init g c = on_begin g.B.Builder.takes (text_of TemplateKey) (λ s. key s ∷ []) key_events keys_fold c.args.bytes.now c.args.count (c.args.count - 0) c.args.start _ c.requires (omega arith)

pub loop-preserved : goal.loop-preserved
loop-preserved g c =
    on_step g.B.Builder.takes (text_of TemplateKey) (λ s. key s ∷ []) key_events keys_fold c.args.bytes.now c.args.count c.args.start (c.args.count - c.loop.counter) (c.args.count - (c.loop.counter + 1)) _ _ _ _ _
    (omega (arith, c.loop-test.true)) c.loop.invariant (c.in_ok-end.ensures.told TemplateKey)

pub returns : goal.returns
returns g c =
    on_end g.B.Builder.takes (text_of TemplateKey) (λ s. key s ∷ []) key_events keys_fold c.args.bytes.now c.args.count c.args.start (c.args.count - c.loop.counter) _ _ _ (omega (arith, c.loop-test.false)) c.loop.invariant
