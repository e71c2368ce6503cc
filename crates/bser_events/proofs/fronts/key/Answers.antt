-- A key.
use Rattle.bser_events.proofs.Binds.{each_some}
use Rattle.bser_events.proofs.AtStart.{key_reads}
use Rattle.bser_events.proofs.fronts.key.Goals as goal

pub returns-in-Found-Str-default : goal.returns-in-Found-Str-default
returns-in-Found-Str-default c =
    let found = c.in-Found-Str-default in
    each_some _ _ c.text.result c.text.ensures
    (λ t h. key_reads found.value-0 found.value found.len found.size c.args.bytes.now t.text.now t.rest.now found.value-is found.ensures h)
