-- The keys up to here are taken.
use Rattle.std.proofs.Common.{◌-◌}
use Rattle.bser_format.specs.Named.{text_of}
use Rattle.bser_format.specs.declared.errors.Kind.TheVariants.{TemplateKey}
use Rattle.bser_events.proofs.Binds.{ReadsOn}
use Rattle.bser_serde_format.proofs.containers.take_keys.Given as goal

abbrev pub invariant-loop : goal.invariant-loop
invariant-loop l = ReadsOn (text_of TemplateKey) l.width l.bytes (l.width - l.counter) l.rest
