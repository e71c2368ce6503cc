-- One key more.
use Rattle.std.proofs.Common.{◌+◌, ◌-◌, arith}
use Rattle.bser_format.specs.Named.{text_of}
use Rattle.bser_format.specs.declared.errors.Kind.TheVariants.{TemplateKey}
use Rattle.bser_events.proofs.Binds.{on_step, on_end}
use Rattle.bser_serde_format.proofs.containers.take_keys.Goals as goal

pub loop-preserved : goal.loop-preserved
loop-preserved c =
    on_step (text_of TemplateKey) c.args.width (c.args.width - c.loop.counter) (c.args.width - (c.loop.counter + 1)) c.args.bytes.now c.loop.rest.now _
    (omega (arith, c.loop-test.true)) c.loop.invariant (_, c.in-Some.ensures.read TemplateKey)

pub returns : goal.returns
returns c =
    on_end (text_of TemplateKey) c.args.width (c.args.width - c.loop.counter) c.args.bytes.now c.loop.rest.now (omega (arith, c.loop-test.false)) c.loop.invariant
