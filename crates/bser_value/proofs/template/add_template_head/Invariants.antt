use Rattle.std.proofs.Common.{◌++◌, flat_map}
use Rattle.std.specs.List.{AllByRecursion}
use Rattle.bser_format.specs.Canonical.{least_count, canonical_text, IsWritableText}
use Rattle.bser_ser.proofs.AllBut.{AllBut}
use Rattle.bser_value.specs.CompactTexts.{names_of, head_text}
use Rattle.bser_value.proofs.template.add_template_head.Given as goal

abbrev pub invariant-loop-key : goal.invariant-loop-key
invariant-loop-key g l = record {
  put : AllBut g.W.Sink (head_text l.first.entries l.rows) (flat_map canonical_text (names_of l.key-iterator) ++ least_count l.rows) l.fn.out l.out;
  texts : AllByRecursion IsWritableText (names_of l.key-iterator) → AllByRecursion IsWritableText (names_of l.first.entries);
}
