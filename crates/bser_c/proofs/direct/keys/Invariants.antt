-- The keys up to here are told.
use Rattle.std.proofs.Common.{◌-◌}
use Rattle.bser_format.specs.Named.{text_of}
use Rattle.bser_format.specs.declared.errors.Kind.TheVariants.{TemplateKey}
use Rattle.bser_events.specs.Events.{key_events}
use Rattle.bser_c.proofs.Between.{ToldOn}
use Rattle.bser_c.proofs.direct.keys.Given as goal

abbrev pub invariant-loop : goal.invariant-loop
invariant-loop g l = ToldOn g.B.Builder.takes (text_of TemplateKey) key_events l.bytes l.count l.start l.fn.builder (l.count - l.counter) l.end l.builder
