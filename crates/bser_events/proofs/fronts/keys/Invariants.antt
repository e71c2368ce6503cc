-- The keys up to here are passed.
use Rattle.std.proofs.Common.{◌-◌}
use Rattle.bser_format.specs.Named.{text_of}
use Rattle.bser_format.specs.declared.errors.Kind.TheVariants.{TemplateKey}
use Rattle.bser_events.proofs.Binds.{ReadsOn}
use Rattle.bser_events.proofs.fronts.keys.Given as goal

abbrev pub invariant-loop : goal.invariant-loop
invariant-loop l = ReadsOn (text_of TemplateKey) l.count l.bytes (l.count - l.counter) l.rest
