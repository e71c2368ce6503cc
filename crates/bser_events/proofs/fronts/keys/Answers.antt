-- One key more.
use Rattle.std.proofs.Common.{◌+◌, ◌-◌, arith}
use Rattle.bser_format.specs.Named.{text_of}
use Rattle.bser_format.specs.declared.errors.Kind.TheVariants.{TemplateKey}
use Rattle.bser_events.proofs.Binds.{on_step}
use Rattle.bser_events.proofs.fronts.keys.Goals as goal

pub loop-preserved : goal.loop-preserved
loop-preserved c =
    on_step (text_of TemplateKey) c.args.count (c.args.count - c.loop.counter) (c.args.count - (c.loop.counter + 1)) c.args.bytes.now c.loop.rest.now _
    (omega (arith, c.loop-test.true)) c.loop.invariant (_, c.in_ok-rest.ensures.read TemplateKey)
