-- The root is at the first node.
use Rattle.std.proofs.Common.{None, sym}
use Rattle.bser_document.specs.DocumentView.{value_of}
use Rattle.bser_document.proofs.Holds.{root_holds}
use Rattle.bser_document.proofs.Readings.{part_is}
use Rattle.bser_document.proofs.Whole.{document_holds}
use Rattle.bser_document.proofs.document.Document.root.Goals as goal

pub returns-clause-whole : goal.returns-clause-whole
returns-clause-whole c = root_holds c.args.self.now (value_of c.args.self.now) (document_holds c.args.self.now)

pub returns-clause-held : goal.returns-clause-held
returns-clause-held c u h = root_holds c.args.self.now u h

pub returns-clause-read : goal.returns-clause-read
returns-clause-read c = sym (part_is c.args.self.now None 0 (value_of c.args.self.now) (root_holds c.args.self.now (value_of c.args.self.now) (document_holds c.args.self.now)))
