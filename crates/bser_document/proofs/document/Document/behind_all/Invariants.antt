-- The fields that are left.
use Rattle.std.proofs.Common.{◌≡◌, ◌-◌, length}
use Rattle.bser_format.specs.Tree.{Fields, fields}
use Rattle.bser_document.specs.Spans.{FieldsLie}
use Rattle.bser_document.proofs.Walks.{FieldsLeft}
use Rattle.bser_document.proofs.document.Document.behind_all.Given as goal

abbrev pub invariant-loop : goal.invariant-loop
invariant-loop l = (fs : Fields) → FieldsLie l.self fs l.fn.at → length (fields fs) ≡ l.count → FieldsLeft l.self l.fn.at fs l.behind (l.count - l.counter)
